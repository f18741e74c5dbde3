-- The change of a ledger that obeys its rule: a pair of its own put between others, or the pairs of the slot widened to one, is the range joined.
use Prim.Native.Nat.{ℕ, ◌+◌, ◌*◌, ◌-◌, ◌≤◌, ◌<◌, min, max}
use mathlib.Core.Path.{◌≡◌, sym, ap, ◌∙◌}
use mathlib.Core.Bool.{true}
use mathlib.Core.List.{List}
use native.Mathlib.Omega.{arith}
use borrow.Author.Tests.{lt-ltb, le-ltb}
use lib.ListN.{get_or, set}
use Rattle.ledger.specs.Pairs.{pair, size, join, ends_at_most, count_ending_below, count_starting_by}
use Rattle.ledger.specs.Ledger.{largest, obeys, pairs_of, laid_out, capacity}
use Rattle.claims.specs.Shift.{inserted, closed}
use Rattle.ledger.proofs.LedgerRule.{start_is, end_is}
use Rattle.ledger.proofs.PairsJoinSlot.{rest, splice, start_at, end_at, reached-some, join_is, count_starting_by-le, count_starting_by-all}
use Rattle.claims.proofs.ShiftedPairs.{insert-lent, close-lent}
use Rattle.claims.proofs.JoinRoom.{even, ruled, fits, form, at-past, size-joined}

module _ (l : List ℕ) (o : obeys l ≡ true) where
  -- the pairs that start by the largest number are all
  pub used-is : ends_at_most largest (pairs_of l) ≡ true → count_starting_by largest (pairs_of l) ≡ size (pairs_of l)
  used-is b = count_starting_by-all largest 0 (pairs_of l) (ruled l o) b

  module _ (s e : ℕ) (h : s < e) where
    -- a pair of its own
    pub own-joined : count_ending_below s (pairs_of l) ≡ count_starting_by e (pairs_of l) → size (join s e (pairs_of l)) ≤ capacity l
        → inserted l (2 * count_ending_below s (pairs_of l)) (2 * size (pairs_of l)) s e ≡ laid_out (capacity l) (join s e (pairs_of l))
    own-joined x g =
        let ps = pairs_of l in
        let r = capacity l in
        let at = count_ending_below s ps in
        let past = count_starting_by e ps in
        let j : join s e ps ≡ splice at ps (pair s e (rest at ps)) = join_is s e 0 ps h (ruled l o) ∙ rw (le-ltb at past (omega arith), ← x) in
        ap (λ z. inserted z (2 * at) (2 * size ps) s e) (form l o)
        ∙ insert-lent r ps (fits l o) at s e (omega (arith, count_starting_by-le e ps)) (omega (arith, size-joined l o s e h, count_starting_by-le e ps))
        ∙ ap (laid_out r) (sym j)

    -- the pairs of the slot widened to one
    pub wide-joined : (count_ending_below s (pairs_of l) ≡ count_starting_by e (pairs_of l) → ⊥)
        → closed (set (set l (2 * count_ending_below s (pairs_of l)) (min (get_or l (2 * count_ending_below s (pairs_of l)) 0) s)) (2 * count_ending_below s (pairs_of l) + 1) (max (get_or l (2 * count_starting_by e (pairs_of l) - 1) 0) e)) (2 * count_ending_below s (pairs_of l) + 2) (2 * count_starting_by e (pairs_of l)) (2 * size (pairs_of l))
        ≡ laid_out (capacity l) (join s e (pairs_of l))
    wide-joined x =
        let ps = pairs_of l in
        let r = capacity l in
        let at = count_ending_below s ps in
        let past = count_starting_by e ps in
        let i : 2 * past - 1 ≡ 2 * (past - 1) + 1 = omega (arith, at-past l o s e h) in
        let a : get_or l (2 * at) 0 ≡ start_at at ps = start_is r l (even l o) o at in
        let z : get_or l (2 * past - 1) 0 ≡ end_at (past - 1) ps = rw i (end_is r l (even l o) o (past - 1)) in
        let j : join s e ps ≡ splice at ps (pair (min (start_at at ps) s) (max (end_at (past - 1) ps) e) (rest past ps)) =
        join_is s e 0 ps h (ruled l o) ∙ rw (lt-ltb at past (omega (arith, at-past l o s e h)), reached-some e past ps (omega (arith, at-past l o s e h))) in
        rw (a, z)
        (ap (λ z. closed (set (set z (2 * at) (min (start_at at ps) s)) (2 * at + 1) (max (end_at (past - 1) ps) e)) (2 * at + 2) (2 * past) (2 * size ps)) (form l o)
        ∙ close-lent r ps (fits l o) at past (min (start_at at ps) s) (max (end_at (past - 1) ps) e) (omega (arith, at-past l o s e h)) (count_starting_by-le e ps)
        ∙ ap (laid_out r) (sym j))
