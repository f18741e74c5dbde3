-- The judgement of a range from its place: in a ledger by the rule it is the judgement, and in any list its slot lies inside.
use Prim.Native.Nat.{ℕ, suc, ◌+◌, ◌*◌, ◌-◌, ◌≤◌, ◌<◌}
use mathlib.Core.Path.{◌≡◌, refl, sym, ap}
use mathlib.Core.Bool.{Bool, true, false, cond, ◌&&◌, ◌||◌, and-eq-true_iff}
use mathlib.Core.List.{List}
use mathlib.Core.Logic.{◌⊎◌, inl, inr}
use native.Mathlib.Omega.{arith}
use native.Mathlib.Numerals.{add-one}
use native.Mathlib.Decide.{dec_lt, ℕ_discrete}
use borrow.Author.Tests.{eq-eqb, ne_eqb, ltb-true}
use lib.Dec.{leb, ltb, eqb}
use lib.ListN.{get_or, get_or-eq_default}
use Rattle.ledger.specs.Pairs.{size, join, overlaps, count_ending_below, count_starting_by}
use Rattle.ledger.specs.Ledger.{obeys, pairs_of, capacity}
use Rattle.claims.specs.Claim.{slot_of, shares_number, full_number, judged}
use Rattle.claims.specs.Neighbours.{Pair, pair_at, shared_by, starts_by, slot_by, lacks_pair, judged_by}
use Rattle.claims.specs.declared.claim.Slot.{Slot}
use Rattle.std.specs.Prelude.{Result, Ok, Err}
use Rattle.ledger.proofs.LedgerRule.{start_is, end_is}
use Rattle.ledger.proofs.PairsAtPlace.{starting-at}
use Rattle.claims.proofs.JoinRoom.{at-is, past_is, even, ruled, room-wide, room-none, room-last}
use Rattle.claims.proofs.Neighbours.{numbered, two-share, two-touch}

-- ---- in a ledger by the rule

moved : (at : ℕ) (t : Bool) (n : ℕ) → cond t (at + n) at ≡ at + cond t n 0
moved at true n = refl
moved at false n = omega arith

module _ (l : List ℕ) (o : obeys l ≡ true) (s e : ℕ) (h : s < e) where
  read_is : (i : ℕ) → pair_at l i ≡ numbered i (pairs_of l)
  read_is i = rw (start_is (capacity l) l (even l o) o i, end_is (capacity l) l (even l o) o i)

  shared-is : let at = count_ending_below s (pairs_of l) in (shared_by s e (pair_at l at) || shared_by s e (pair_at l (at + 1))) ≡ overlaps s e (pairs_of l)
  shared-is =
      let at = count_ending_below s (pairs_of l) in
      rw (read_is at, read_is (at + 1), add-one at) (sym (two-share s e 0 (pairs_of l) (ruled l o)))

  slot_is : overlaps s e (pairs_of l) ≡ false → let at = count_ending_below s (pairs_of l) in slot_by e at (pair_at l at) (pair_at l (at + 1)) ≡ slot_of s e (pairs_of l)
  unfolding slot_by slot_of
  slot_is n =
      let at = count_ending_below s (pairs_of l) in
      rw (read_is at, read_is (at + 1), add-one at, two-touch s e 0 (pairs_of l) h (ruled l o) n)
      (ap (λ x. record { at = at; past = x }) (moved at (starts_by e (numbered at (pairs_of l))) (cond (starts_by e (numbered (suc at) (pairs_of l))) 2 1)))

  -- whether there is no pair for a range with that slot
  pub lacks-is : (slot : Slot) → slot ≡ slot_of s e (pairs_of l) → lacks_pair (capacity l) slot (pair_at l (capacity l - 1)) ≡ ltb (capacity l) (size (join s e (pairs_of l)))
  unfolding lacks_pair
  lacks-is slot q = rw (at-is s e l slot q, past_is s e l slot q) (go (ℕ_discrete (count_ending_below s (pairs_of l)) (count_starting_by e (pairs_of l))) (ℕ_discrete (capacity l) 0))
    where
      go : Dec (count_ending_below s (pairs_of l) ≡ count_starting_by e (pairs_of l)) → Dec (capacity l ≡ 0)
          → (eqb (count_ending_below s (pairs_of l)) (count_starting_by e (pairs_of l)) && (eqb (capacity l) 0 || ltb 0 (get_or l (2 * (capacity l - 1) + 1) 0))) ≡ ltb (capacity l) (size (join s e (pairs_of l)))
      go (no x) z = rw (ne_eqb (count_ending_below s (pairs_of l)) (count_starting_by e (pairs_of l)) x) (sym (room-wide l o s e h x))
      go (yes x) (yes z) = rw (eq-eqb (count_ending_below s (pairs_of l)) (count_starting_by e (pairs_of l)) x, eq-eqb (capacity l) 0 z) (sym (room-none l o s e h x z))
      go (yes x) (no z) = rw (eq-eqb (count_ending_below s (pairs_of l)) (count_starting_by e (pairs_of l)) x, ne_eqb (capacity l) 0 z) (room-last l o s e h x z)

  pub judged_is : let at = count_ending_below s (pairs_of l) in judged (capacity l) s e (pairs_of l) ≡ judged_by (capacity l) s e at (pair_at l at) (pair_at l (at + 1)) (pair_at l (capacity l - 1))
  unfolding judged judged_by
  judged_is = rw shared-is (go (overlaps s e (pairs_of l)) refl)
    where
      at : ℕ
      at = count_ending_below s (pairs_of l)

      go : (t : Bool) → overlaps s e (pairs_of l) ≡ t
          → cond {A = Result Slot ℕ} t (Err shares_number) (cond (ltb (capacity l) (size (join s e (pairs_of l)))) (Err full_number) (Ok (slot_of s e (pairs_of l))))
          ≡ cond {A = Result Slot ℕ} t (Err shares_number) (cond (lacks_pair (capacity l) (slot_by e at (pair_at l at) (pair_at l (at + 1))) (pair_at l (capacity l - 1))) (Err full_number) (Ok (slot_by e at (pair_at l at) (pair_at l (at + 1)))))
      go true x = refl
      go false x = rw (lacks-is (slot_by e at (pair_at l at) (pair_at l (at + 1))) (slot_is x), slot_is x)

-- ---- in any list

-- a pair that starts by a place is used, so it is not past the last
pub starts-inside : (e i : ℕ) (l : List ℕ) → starts_by e (pair_at l i) ≡ true → i < capacity l
unfolding starts_by
starts-inside e i l h = go (dec_lt i (capacity l)) (ltb-true 0 (get_or l (2 * i + 1) 0) ((and-eq-true_iff (ltb 0 (get_or l (2 * i + 1) 0)) (leb (get_or l (2 * i) 0) e)).0 h).0)
  where
    go : Dec (i < capacity l) → 0 < get_or l (2 * i + 1) 0 → i < capacity l
    go (yes q) u = q
    go (no q) u = absurd (omega (arith, u, get_or-eq_default l 0 {n = 2 * i + 1} (omega arith)))

pub slot_inside : (e at : ℕ) (l : List ℕ) → at ≤ capacity l
    → let slot = slot_by e at (pair_at l at) (pair_at l (at + 1)) in (slot.at ≤ slot.past) × (slot.past ≤ capacity l)
unfolding slot_by
slot_inside e at l h = go (starts_by e (pair_at l at)) (starts_by e (pair_at l (at + 1))) refl refl
  where
    go : (t u : Bool) → starts_by e (pair_at l at) ≡ t → starts_by e (pair_at l (at + 1)) ≡ u → (at ≤ cond t (at + cond u 2 1) at) × (cond t (at + cond u 2 1) at ≤ capacity l)
    go false u x y = (omega arith, omega arith)
    go true false x y = (omega arith, omega (arith, starts-inside e at l x))
    go true true x y = (omega arith, omega (arith, starts-inside e (at + 1) l y))

-- a slot that was answered is the one by the place
pub free-slot : (r s e at : ℕ) (here next last : Pair) (slot : Slot) → judged_by r s e at here next last ≡ Ok slot → slot_by e at here next ≡ slot
unfolding judged_by
free-slot r s e at here next last slot q = go (shared_by s e here || shared_by s e next) (lacks_pair r (slot_by e at here next) last) q
  where
    go : (t u : Bool) → cond {A = Result Slot ℕ} t (Err shares_number) (cond u (Err full_number) (Ok (slot_by e at here next))) ≡ Ok slot → slot_by e at here next ≡ slot
    go true u k = cc
    go false true k = cc
    go false false k = cc

-- what is refused is refused by one of the two numbers
pub refused_by : (r s e at : ℕ) (here next last : Pair) (k : ℕ) → judged_by r s e at here next last ≡ Err k → (k ≡ shares_number) ⊎ (k ≡ full_number)
unfolding judged_by
refused_by r s e at here next last k q = go (shared_by s e here || shared_by s e next) (lacks_pair r (slot_by e at here next) last) q
  where
    go : (t u : Bool) → cond {A = Result Slot ℕ} t (Err shares_number) (cond u (Err full_number) (Ok (slot_by e at here next))) ≡ Err k → (k ≡ shares_number) ⊎ (k ≡ full_number)
    go true u x = inl cc
    go false true x = inr cc
    go false false x = absurd (cc)

-- ---- the pairs that start by an end

pub starting-is : (e at : ℕ) (l : List ℕ) → obeys l ≡ true → at ≡ count_ending_below e (pairs_of l) → at + cond (starts_by e (pair_at l at)) 1 0 ≡ count_starting_by e (pairs_of l)
unfolding starts_by
starting-is e at l o a =
    rw (start_is (capacity l) l (even l o) o at, end_is (capacity l) l (even l o) o at, a) (sym (starting-at e 0 (pairs_of l) (ruled l o)))

pub ruleset judging = (judged_is, slot_inside, free-slot, refused_by)
