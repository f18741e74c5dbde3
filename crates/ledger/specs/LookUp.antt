-- What document 02, Item 2, says of the search for a place, a field for each sentence.
use Rattle.std.specs.Prelude.{ℕ, suc, ◌+◌, ◌/◌, ◌≤◌, ◌<◌, ◌≡◌, true, cond, List, ltb}
use Rattle.ledger.specs.Pairs.{Pairs, none, pair}
use Rattle.ledger.specs.Ledger.{obeys, pairs_of, capacity}
use Rattle.ledger.specs.Place.{still_open, begun, looked, looks_for, FindResult}
use Rattle.ledger.specs.declared.place.Search.{Search}
use Rattle.ledger.specs.declared.place.Place.{Place}

-- the number of pairs that end below s
unfoldable pub ending_below : ℕ → Pairs → ℕ
ending_below s none = 0
ending_below s (pair a b ps) = cond (ltb b s) 1 0 + ending_below s ps

pub record LookUp : Type 0 where
  -- the place for a new range is the number of used pairs that end below its start
  pub place_is : (s : ℕ) (l : List ℕ) (p : Place) → obeys l ≡ true → FindResult s l p → p.at ≡ ending_below s (pairs_of l)
  -- no other answer is led to
  pub one_answer : (s : ℕ) (l : List ℕ) (p q : Place) → FindResult s l p → FindResult s l q → p ≡ q
  -- all pairs are open at first
  pub all_open : (l : List ℕ) → still_open (begun l) ≡ capacity l
  -- each look at a pair leaves at most half the pairs open
  pub halves : (s : ℕ) (l : List ℕ) (x : Search) → still_open (looked s l x) ≤ still_open x / 2
  -- it is one look more
  pub counts : (s : ℕ) (l : List ℕ) (x : Search) → (looked s l x).looks ≡ suc x.looks
  -- so many looks do for m pairs: none for none, and one more than for half of them
  pub looks_none : looks_for 0 ≡ 0
  pub looks_half : (m : ℕ) → 0 < m → looks_for m ≡ suc (looks_for (m / 2))
  -- so that 13 looks do for 4,096
  pub looks_4096 : looks_for 4096 ≡ 13
  pub thirteen : (s : ℕ) (l : List ℕ) (p : Place) → capacity l ≤ 4096 → FindResult s l p → p.looks ≤ 13
