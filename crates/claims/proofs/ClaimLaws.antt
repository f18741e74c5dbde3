-- `ClaimLaws` holds.
use Prim.Native.Nat.{ℕ, zero, suc, ◌+◌, ◌*◌, ◌≤◌, ◌<◌}
use mathlib.Core.Path.{◌≡◌, refl}
use mathlib.Core.Bool.{true}
use mathlib.Core.List.{List}
use native.Mathlib.Omega.{arith}
use native.Mathlib.Decide.{dec_le}
use lib.ListN.{get_or}
use Rattle.ledger.specs.Pairs.{Pairs, none, pair, size, ObeyFrom, count_starting_by}
use Rattle.ledger.specs.Ledger.{obeys, pairs_of, capacity}
use Rattle.claims.specs.Claim.{slot_of}
use Rattle.claims.specs.ClaimLaws.{ClaimLaws}
use Rattle.ledger.proofs.LedgerRule.{start_is, end_is}
use Rattle.ledger.proofs.PairsJoinSlot.{start_at, count_starting_by-le, count_starting_by-on, count_starting_by-stops}
use Rattle.ledger.proofs.PairsAtPlace.{below-ends, below-from}
use Rattle.claims.proofs.JoinRoom.{even, ruled}
use Rattle.claims.proofs.Judged.{numbers, slot_inside}
use Rattle.claims.proofs.JudgedByPlace.{judged_is}

-- ---- the pairs that start by an end, pair by pair

count_starting_by-starts : (e i : ℕ) (ps : Pairs) → i < count_starting_by e ps → start_at i ps ≤ e
unfolding start_at
count_starting_by-starts e i none h = absurd (unfold count_starting_by in omega arith)
count_starting_by-starts e i (pair a b ps) h = go i (dec_le a e) (λ j. count_starting_by-starts e j ps) h
  where
    go : (i : ℕ) → Dec (a ≤ e) → ((j : ℕ) → j < count_starting_by e ps → start_at j ps ≤ e) → i < count_starting_by e (pair a b ps) → start_at i (pair a b ps) ≤ e
    go i (no q) f k = absurd (omega (arith, count_starting_by-stops e a b ps (omega arith)))
    go zero (yes q) f k = q
    go (suc i) (yes q) f k = f i (omega (arith, count_starting_by-on e a b ps q))

-- the starts ascend
starts_from : (e lo i : ℕ) (ps : Pairs) → ObeyFrom lo ps → e < lo → i < size ps → e < start_at i ps
unfolding start_at size
starts_from e lo i none c h k = absurd (omega arith)
starts_from e lo zero (pair a b ps) c h k = omega (arith, c.0)
starts_from e lo (suc i) (pair a b ps) c h k = starts_from e (suc b) i ps c.2 (omega (arith, c.0, c.1)) (omega arith)

count_starting_by-after : (e lo i : ℕ) (ps : Pairs) → ObeyFrom lo ps → count_starting_by e ps ≤ i → i < size ps → e < start_at i ps
unfolding start_at size
count_starting_by-after e lo i none c h k = absurd (omega arith)
count_starting_by-after e lo i (pair a b ps) c h k = go i (dec_le a e) (λ j. count_starting_by-after e (suc b) j ps c.2) h k
  where
    go : (i : ℕ) → Dec (a ≤ e) → ((j : ℕ) → count_starting_by e ps ≤ j → j < size ps → e < start_at j ps) → count_starting_by e (pair a b ps) ≤ i → i < suc (size ps) → e < start_at i (pair a b ps)
    go zero (yes q) f h k = absurd (omega (arith, count_starting_by-on e a b ps q))
    go (suc i) (yes q) f h k = f i (omega (arith, count_starting_by-on e a b ps q)) (omega arith)
    go zero (no q) f h k = omega arith
    go (suc i) (no q) f h k = starts_from e (suc b) i ps c.2 (omega (arith, c.1)) (omega arith)

-- ---- the entries of a ledger by the rule

module _ (s e i : ℕ) (l : List ℕ) (o : obeys l ≡ true) where
  before_slot : i < (slot_of s e (pairs_of l)).at → get_or l (2 * i + 1) 0 < s
  unfolding slot_of
  before_slot h = rw (end_is (capacity l) l (even l o) o i) (below-ends s i (pairs_of l) h)

  in_slot : (slot_of s e (pairs_of l)).at ≤ i → i < (slot_of s e (pairs_of l)).past → (s ≤ get_or l (2 * i + 1) 0) × (get_or l (2 * i) 0 ≤ e)
  unfolding slot_of
  in_slot h k =
      rw (start_is (capacity l) l (even l o) o i, end_is (capacity l) l (even l o) o i)
      (below-from s 0 i (pairs_of l) (ruled l o) h (omega (arith, count_starting_by-le e (pairs_of l))), count_starting_by-starts e i (pairs_of l) k)

  after_slot : (slot_of s e (pairs_of l)).past ≤ i → i < size (pairs_of l) → e < get_or l (2 * i) 0
  unfolding slot_of
  after_slot h k = rw (start_is (capacity l) l (even l o) o i) (count_starting_by-after e 0 i (pairs_of l) (ruled l o) h k)

pub claim-laws : ClaimLaws
claim-laws =
    record {
      number_17 = λ r s e ps. (numbers r s e ps).0;
      number_18 = λ r s e ps. (numbers r s e ps).1;
      number_0 = λ r s e ps. (numbers r s e ps).2;
      accepted = λ r s e ps. (numbers r s e ps).3;
      before_slot = before_slot;
      in_slot = in_slot;
      after_slot = after_slot;
      slot_inside = slot_inside;
      neighbours = λ s e l o h. judged_is l o s e h;
      joined = λ s e l m o h j. j.by_rule o h refl;
      not_joined = λ s e k l m j. j.unchanged k refl;
    }
