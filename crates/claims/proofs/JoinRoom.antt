-- A range joined to a ledger that obeys its rule: where the slot lies, and how many pairs it needs.
use Prim.Native.Nat.{ℕ, suc, ◌+◌, ◌*◌, ◌-◌, ◌≤◌, ◌<◌}
use mathlib.Core.Path.{◌≡◌, sym, ap, ◌∙◌}
use mathlib.Core.Bool.{true, false}
use mathlib.Core.List.{List}
use native.Mathlib.Omega.{arith}
use native.Mathlib.Decide.{dec_lt}
use borrow.Author.Tests.{lt-ltb, le-ltb}
use lib.Dec.{ltb}
use lib.ListN.{length, get_or}
use Rattle.ledger.specs.Pairs.{pair, size, ObeyFrom, join, count_ending_below, count_starting_by}
use Rattle.ledger.specs.Ledger.{obeys, pairs_of, laid_out, capacity}
use Rattle.claims.specs.Claim.{slot_of}
use Rattle.claims.specs.declared.claim.Slot.{Slot}
use Rattle.ledger.proofs.LedgerLayout.{rule-ruled, laid_out-pairs_of, size-pairs_of}
use Rattle.ledger.proofs.LedgerOdd.{obeys-even}
use Rattle.ledger.proofs.LedgerRule.{end_is}
use Rattle.ledger.proofs.PairsJoinSlot.{rest, end_at, begun, ended, join_is, count_starting_by-le, below-le, end_at-used, end_at-unused}
use Rattle.ledger.proofs.PairsAsNumbers.{size-rest, size-splice}

-- ---- a slot

module _ (s e : ℕ) (l : List ℕ) (slot : Slot) (q : slot ≡ slot_of s e (pairs_of l)) where
  pub at-is : slot.at ≡ count_ending_below s (pairs_of l)
  unfolding slot_of
  at-is = ap (λ (z : Slot). z.at) q

  pub past_is : slot.past ≡ count_starting_by e (pairs_of l)
  unfolding slot_of
  past_is = ap (λ (z : Slot). z.past) q

-- ---- a ledger by the rule

module _ (l : List ℕ) (o : obeys l ≡ true) where
  pub even : length l ≡ 2 * capacity l
  even = omega (arith, obeys-even l o)

  pub ruled : ObeyFrom 0 (pairs_of l)
  unfolding obeys
  ruled = rule-ruled 0 l o

  pub fits : size (pairs_of l) ≤ capacity l
  fits = omega (arith, size-pairs_of l)

  pub form : l ≡ laid_out (capacity l) (pairs_of l)
  unfolding obeys
  form = laid_out-pairs_of (capacity l) 0 l o even

  module _ (s e : ℕ) (h : s < e) where
    pub at-past : count_ending_below s (pairs_of l) ≤ count_starting_by e (pairs_of l)
    at-past = below-le s e 0 (pairs_of l) h ruled

    -- how many pairs it needs
    pub size-joined : size (join s e (pairs_of l)) ≡ count_ending_below s (pairs_of l) + suc (size (pairs_of l) - count_starting_by e (pairs_of l))
    unfolding size
    size-joined =
        let ps = pairs_of l in
        let at = count_ending_below s ps in
        let past = count_starting_by e ps in
        ap size (join_is s e 0 ps h ruled)
        ∙ size-splice at ps (pair (begun s at past ps) (ended e at past ps) (rest past ps)) (omega (arith, at-past, count_starting_by-le e ps))
        ∙ rw (size-rest past ps)

    -- ---- whether there is a pair for it

    pub room-wide : (count_ending_below s (pairs_of l) ≡ count_starting_by e (pairs_of l) → ⊥) → ltb (capacity l) (size (join s e (pairs_of l))) ≡ false
    room-wide x = le-ltb (capacity l) (size (join s e (pairs_of l))) (omega (arith, size-joined, at-past, fits, count_starting_by-le e (pairs_of l)))

    module _ (x : count_ending_below s (pairs_of l) ≡ count_starting_by e (pairs_of l)) where
      pub room-none : capacity l ≡ 0 → ltb (capacity l) (size (join s e (pairs_of l))) ≡ true
      room-none z = lt-ltb (capacity l) (size (join s e (pairs_of l))) (omega (arith, size-joined))

      -- the last pair is used only where all are
      pub room-last : (capacity l ≡ 0 → ⊥) → ltb 0 (get_or l (2 * (capacity l - 1) + 1) 0) ≡ ltb (capacity l) (size (join s e (pairs_of l)))
      room-last z = rw (end_is (capacity l) l even o (capacity l - 1)) (go (dec_lt (size (pairs_of l)) (capacity l)))
        where
          go : Dec (size (pairs_of l) < capacity l) → ltb 0 (end_at (capacity l - 1) (pairs_of l)) ≡ ltb (capacity l) (size (join s e (pairs_of l)))
          go (yes y) =
              rw (end_at-unused (capacity l - 1) (pairs_of l) (omega arith))
              (sym (le-ltb (capacity l) (size (join s e (pairs_of l))) (omega (arith, size-joined, count_starting_by-le e (pairs_of l)))))
          go (no y) =
              rw (lt-ltb 0 (end_at (capacity l - 1) (pairs_of l)) (end_at-used (capacity l - 1) 0 (pairs_of l) ruled (omega (arith, fits))))
              (sym (lt-ltb (capacity l) (size (join s e (pairs_of l))) (omega (arith, size-joined, count_starting_by-le e (pairs_of l), fits))))

pub ruleset slots = (at-past, at-is, past_is)
