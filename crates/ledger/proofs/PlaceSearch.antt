-- The search for a place by halving: where it stays, and how many looks it takes.
use Prim.Native.Nat.{ℕ, zero, suc, ◌+◌, ◌-◌, ◌/◌, ◌≤◌, ◌<◌}
use mathlib.Core.Path.{◌≡◌, refl, sym, ap, ◌∙◌}
use mathlib.Core.Bool.{Bool, true, false}
use mathlib.Core.List.{List}
use native.Mathlib.Omega.{arith}
use borrow.Author.Tests.{ltb-true, ltb-false}
use lib.Dec.{ltb}
use Rattle.ledger.specs.Pairs.{count_ending_below}
use Rattle.ledger.specs.Ledger.{obeys, pairs_of, capacity}
use Rattle.ledger.specs.Place.{ends_below, still_open, begun, leaves, middle, looked, Leads, none_open, one_look, looks_within, looks_for}
use Rattle.ledger.specs.LookUp.{LookUp}
use Rattle.ledger.specs.declared.place.Search.{Search}
use Rattle.ledger.specs.declared.place.Place.{Place}
use Rattle.ledger.proofs.LedgerLayout.{rule-ruled, size-pairs_of}
use Rattle.ledger.proofs.LedgerOdd.{obeys-even}
use Rattle.ledger.proofs.LedgerRule.{end_is}
use Rattle.ledger.proofs.PairsAtPlace.{below-size, below-are-all, below-test}

-- ---- where the place stays

module _ (s : ℕ) (l : List ℕ) where
  -- a look says whether the pair is before the place
  look-says : (i : ℕ) → obeys l ≡ true → ends_below s l i ≡ ltb i (count_ending_below s (pairs_of l))
  unfolding ends_below obeys
  look-says i o = rw (end_is (capacity l) l (omega (arith, obeys-even l o)) o i) (below-test s 0 i (pairs_of l) (rule-ruled 0 l o))

  place_inside : count_ending_below s (pairs_of l) ≤ capacity l
  place_inside = omega (arith, below-size s (pairs_of l), size-pairs_of l)

  -- the place lies from low up to high
  abbrev pub Between : Search → Type 0
  Between x = obeys l ≡ true → (x.low ≤ count_ending_below s (pairs_of l)) × (count_ending_below s (pairs_of l) ≤ x.high)

  stays : (x : Search) → Between x → Between (looked s l x)
  unfolding looked
  stays x v o = go (ends_below s l (middle x)) (look-says (middle x) o)
    where
      go : (t : Bool) → t ≡ ltb (middle x) (count_ending_below s (pairs_of l)) → ((leaves t (middle x) x).low ≤ count_ending_below s (pairs_of l)) × (count_ending_below s (pairs_of l) ≤ (leaves t (middle x) x).high)
      go true e = (omega (arith, ltb-true (middle x) (count_ending_below s (pairs_of l)) (sym e)), (v o).1)
      go false e = ((v o).0, ltb-false (middle x) (count_ending_below s (pairs_of l)) (sym e))

  -- ---- how many pairs stay open

  pub halves : (x : Search) → still_open (looked s l x) ≤ still_open x / 2
  unfolding looked still_open
  halves x = go (ends_below s l (middle x))
    where
      go : (t : Bool) → (leaves t (middle x) x).high - (leaves t (middle x) x).low ≤ (x.high - x.low) / 2
      go true = omega arith
      go false = omega arith

  counts : (x : Search) → (looked s l x).looks ≡ suc x.looks
  unfolding looked
  counts x = go (ends_below s l (middle x))
    where
      go : (t : Bool) → (leaves t (middle x) x).looks ≡ suc x.looks
      go true = omega arith
      go false = omega arith

-- ---- how many looks do

looks-at-most : (n k i m : ℕ) → i ≤ m → m ≤ k → looks_within n i ≤ looks_within k m
unfolding looks_within
looks-at-most zero k i m h g = omega arith
looks-at-most (suc n) k zero m h g = omega arith
looks-at-most (suc n) k (suc i) zero h g = absurd (omega arith)
looks-at-most (suc n) zero (suc i) (suc m) h g = absurd (omega arith)
looks-at-most (suc n) (suc k) (suc i) (suc m) h g = omega (arith, looks-at-most n k (suc i / 2) (suc m / 2) (omega arith) (omega arith))

-- more pairs take no fewer
looks-more : (i m : ℕ) → i ≤ m → looks_for i ≤ looks_for m
unfolding looks_for
looks-more i m h = looks-at-most i m i m h (omega arith)

looks_half : (m : ℕ) → 0 < m → looks_for m ≡ suc (looks_for (m / 2))
unfolding looks_for looks_within
looks_half zero h = absurd (omega arith)
looks_half (suc m) h = ap suc (same (suc m / 2) (omega arith))
  where
    same : (d : ℕ) → d ≤ m → looks_within m d ≡ looks_within d d
    same d g = omega (arith, looks-at-most m d d d (omega arith) (omega arith), looks-at-most d m d d (omega arith) g)

-- a look more, and as many as do for the pairs that stay open
looks_on : (s : ℕ) (l : List ℕ) (x : Search) → x.low < x.high → (looked s l x).looks + looks_for (still_open (looked s l x)) ≤ x.looks + looks_for (still_open x)
unfolding still_open
looks_on s l x h =
    omega (arith, counts s l x, looks_half (x.high - x.low) (omega arith), looks-more (still_open (looked s l x)) (still_open x / 2) (halves s l x))

-- ---- as far as a search has come

module _ (s : ℕ) (l : List ℕ) where
  abbrev pub Sought : Search → Type 0
  Sought x =
      (x.low ≤ x.high) × (x.high ≤ capacity l) × (x.looks + still_open x ≤ capacity l) × (x.looks + looks_for (still_open x) ≤ looks_for (capacity l)) × Between s l x
      × ((p : Place) → Leads s l x p → Leads s l (begun l) p)

  pub sought-first : Sought (record { low = 0; high = capacity l; looks = 0 })
  unfolding still_open begun
  sought-first =
      let z : capacity l - 0 ≡ capacity l = omega arith in
      (omega arith, omega arith, omega arith, rw z (omega arith), λ o. (omega arith, place_inside s l), λ p w. w)

  pub sought-on : (x : Search) → Sought x → x.low < x.high → Sought (looked s l x)
  unfolding still_open
  sought-on x v h =
      let b = in_bounds (ends_below s l (middle x)) in
      (unfold looked in b.0, unfold looked in omega (arith, b.1), omega (arith, counts s l x, halves s l x), omega (arith, looks_on s l x h), stays s l x v.4, λ p w. v.5 p (one_look x p h w))
    where
      in_bounds : (t : Bool) → ((leaves t (middle x) x).low ≤ (leaves t (middle x) x).high) × ((leaves t (middle x) x).high ≤ x.high)
      in_bounds true = (omega arith, omega arith)
      in_bounds false = (omega arith, omega arith)

-- no other answer is led to
same_end : (s : ℕ) (l : List ℕ) {x : Search} {p q : Place} → Leads s l x p → Leads s l x q → p ≡ q
same_end s l (none_open x h) (none_open _ k) = refl
same_end s l (none_open x h) (one_look _ q k w) = absurd (omega arith)
same_end s l (one_look x p h w) (none_open _ k) = absurd (omega arith)
same_end s l (one_look x p h w) (one_look _ q k v) = same_end s l w v

looks_4096 : looks_for 4096 ≡ 13
unfolding looks_for looks_within
looks_4096 = refl

pub look_up : LookUp
unfolding obeys
look_up =
    record {
      place_is = λ s l p o r. r.by_rule o ∙ below-are-all s 0 (pairs_of l) (rule-ruled 0 l o);
      one_answer = λ s l p q x y. same_end s l x.by_looks y.by_looks;
      all_open = λ l. unfold still_open begun in omega arith;
      halves = halves;
      counts = counts;
      looks_none = unfold looks_for looks_within in refl;
      looks_half = looks_half;
      looks_4096 = looks_4096;
      thirteen = λ s l p h r. omega (arith, looks_4096, looks-more (capacity l) 4096 h, r.looks_bound);
    }
