-- The place for a range in a ledger, and the search for it by halving (document 02, Item 2).
use Rattle.std.specs.Prelude.{ℕ, zero, suc, ◌+◌, ◌*◌, ◌-◌, ◌/◌, ◌≤◌, ◌<◌, ◌≡◌, Bool, true, false, ◌&&◌, List, ltb, get_or}
use Rattle.ledger.specs.Pairs.{count_ending_below}
use Rattle.ledger.specs.Ledger.{obeys, pairs_of, capacity}
use Rattle.ledger.specs.declared.place.Search.{Search}
use Rattle.ledger.specs.declared.place.Place.{Place}

-- what a look at the pair with the number i asks: is it used, and does it end below s?
unfoldable pub ends_below : ℕ → List ℕ → ℕ → Bool
ends_below s ledger i = ltb 0 (get_or ledger (2 * i + 1) 0) && ltb (get_or ledger (2 * i + 1) 0) s

-- how many pairs are open
unfoldable pub still_open : Search → ℕ
still_open x = x.high - x.low

-- all pairs are open at first, used or not
unfoldable pub begun : List ℕ → Search
begun ledger = record { low = 0; high = capacity ledger; looks = 0 }

-- what a look leaves, as the pair it was at is before the place or not: that pair and those before it are open no longer, or that pair
-- and those after it
abbrev pub leaves : Bool → ℕ → Search → Search
leaves true i x = record { low = i + 1; high = x.high; looks = x.looks + 1 }
leaves false i x = record { low = x.low; high = i; looks = x.looks + 1 }

-- the middle one of the open pairs
abbrev pub middle : Search → ℕ
middle x = x.low + (x.high - x.low) / 2

-- one look, at the middle pair
unfoldable pub looked : ℕ → List ℕ → Search → Search
looked s ledger x = leaves (ends_below s ledger (middle x)) (middle x) x

-- from x on, one look after the other leads to the place: as long as a pair is open, and no longer
pub data Leads (s : ℕ) (ledger : List ℕ) : Search → Place → Type 0 where
  none_open : (x : Search) → x.low ≡ x.high → Leads s ledger x (record { at = x.low; looks = x.looks })
  one_look : (x : Search) (p : Place) → x.low < x.high → Leads s ledger (looked s ledger x) p → Leads s ledger x p

-- how many looks do for m open pairs, where each leaves at most half of them, rounded down. No more than m looks are ever needed: `most`
-- counts these down, so that the definition ends.
unfoldable pub looks_within : ℕ → ℕ → ℕ
looks_within zero m = 0
looks_within (suc most) zero = 0
looks_within (suc most) (suc m) = suc (looks_within most (suc m / 2))

unfoldable pub looks_for : ℕ → ℕ
looks_for m = looks_within m m

-- the place for a range that begins at s was sought in the ledger, and the answer is p
pub record FindResult (s : ℕ) (ledger : List ℕ) (p : Place) : Type 0 where
  pub by_rule : obeys ledger ≡ true → p.at ≡ count_ending_below s (pairs_of ledger)
  -- in any list: the looks that are counted are those that were made, and they are few
  pub by_looks : Leads s ledger (begun ledger) p
  pub looks_bound : p.looks ≤ looks_for (capacity ledger)
  pub inside : p.at ≤ capacity ledger
