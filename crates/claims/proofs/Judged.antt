-- The judgement of a range, case by case: its number, and its slot where it is accepted.
use Prim.Native.Nat.{ℕ, ◌≤◌, ◌<◌}
use mathlib.Core.Path.{◌≡◌, refl, sym, ◌∙◌}
use mathlib.Core.Logic.{◌↔◌}
use mathlib.Core.Bool.{Bool, true, false, cond, true≢false}
use mathlib.Core.List.{List}
use native.Mathlib.Omega.{arith}
use borrow.Author.Tests.{ltb-true, ltb-false}
use lib.Dec.{ltb}
use Rattle.ledger.specs.Pairs.{Pairs, size, join, overlaps}
use Rattle.ledger.specs.Ledger.{obeys, pairs_of, capacity}
use Rattle.answers.specs.Refusal.{number_in}
use Rattle.claims.specs.Claim.{slot_of, shares_number, full_number, judged, PutResult}
use Rattle.claims.specs.declared.claim.Slot.{Slot}
use Rattle.std.specs.Prelude.{Result, Ok, Err}
use Rattle.ledger.proofs.PairsJoinSlot.{count_starting_by-le}
use Rattle.claims.proofs.JoinRoom.{fits, at-past}

-- ---- the three cases

pub data Case (r s e : ℕ) (ps : Pairs) : Result Slot ℕ → Type 0 where
  shared : overlaps s e ps ≡ true → Case r s e ps (Err shares_number)
  full : overlaps s e ps ≡ false → r < size (join s e ps) → Case r s e ps (Err full_number)
  there : overlaps s e ps ≡ false → size (join s e ps) ≤ r → Case r s e ps (Ok (slot_of s e ps))

pub by-case : (r s e : ℕ) (ps : Pairs) → Case r s e ps (judged r s e ps)
unfolding judged
by-case r s e ps = go (overlaps s e ps) (ltb r (size (join s e ps))) refl refl
  where
    go : (t u : Bool) → overlaps s e ps ≡ t → ltb r (size (join s e ps)) ≡ u → Case r s e ps (cond t (Err shares_number) (cond u (Err full_number) (Ok (slot_of s e ps))))
    go true u x y = shared x
    go false true x y = full x (ltb-true r (size (join s e ps)) y)
    go false false x y = there x (ltb-false r (size (join s e ps)) y)

-- ---- the numbers

module _ (r s e : ℕ) (ps : Pairs) where
  abbrev pub Numbers : Result Slot ℕ → Type 0
  Numbers x =
      ((number_in x ≡ 17) ↔ (overlaps s e ps ≡ true))
      × ((number_in x ≡ 18) ↔ ((overlaps s e ps ≡ false) × (r < size (join s e ps))))
      × ((number_in x ≡ 0) ↔ ((overlaps s e ps ≡ false) × (size (join s e ps) ≤ r)))
      × (number_in x ≡ 0 → x ≡ Ok (slot_of s e ps))

  pub numbers : Numbers (judged r s e ps)
  numbers = go (by-case r s e ps)
    where
      go : {x : Result Slot ℕ} → Case r s e ps x → Numbers x
      go (shared a) = (
        (λ q. a, λ q. refl),
        (λ q. absurd (omega arith), λ q. absurd (true≢false (sym a ∙ q.0))),
        (λ q. absurd (omega arith), λ q. absurd (true≢false (sym a ∙ q.0))),
        λ q. absurd (omega arith),
      )
      go (full a b) = (
        (λ q. absurd (omega arith), λ q. absurd (true≢false (sym q ∙ a))),
        (λ q. (a, b), λ q. refl),
        (λ q. absurd (omega arith), λ q. absurd (omega (arith, q.1))),
        λ q. absurd (omega arith),
      )
      go (there a b) = (
        (λ q. absurd (omega arith), λ q. absurd (true≢false (sym q ∙ a))),
        (λ q. absurd (omega arith), λ q. absurd (omega (arith, q.1))),
        (λ q. (a, b), λ q. refl),
        λ q. refl,
      )

-- ---- the slot of a range that is accepted

module _ (s e : ℕ) (l : List ℕ) (slot : Slot) (q : judged (capacity l) s e (pairs_of l) ≡ Ok slot) where
  pub slot_is : slot ≡ slot_of s e (pairs_of l)
  slot_is = let e : ◌≡◌ {A = Result Slot ℕ} (Ok slot) (Ok (slot_of s e (pairs_of l))) = sym q ∙ (numbers (capacity l) s e (pairs_of l)).3 (rw q) in cc

  pub slot-room : size (join s e (pairs_of l)) ≤ capacity l
  slot-room = ((numbers (capacity l) s e (pairs_of l)).2.0 (rw q)).1

-- a range's slot lies inside a ledger by the rule
module _ (s e : ℕ) (l : List ℕ) (o : obeys l ≡ true) (h : s < e) where
  pub slot_inside : ((slot_of s e (pairs_of l)).at ≤ (slot_of s e (pairs_of l)).past) × ((slot_of s e (pairs_of l)).past ≤ capacity l)
  unfolding slot_of
  slot_inside = (at-past l o s e h, omega (arith, fits l o, count_starting_by-le e (pairs_of l)))

-- put at a slot that is not inside the ledger, a range changes nothing
pub puts-outside : (slot : Slot) (s e : ℕ) (l : List ℕ) → ((slot.at ≤ slot.past) × (slot.past ≤ capacity l) → ⊥) → PutResult slot s e l l
puts-outside slot s e l n =
    record { by_rule = λ o h q. absurd (n (rw (slot_is s e l slot q) (slot_inside s e l o h))); same_length = refl }

pub ruleset putting = (slot_is, slot-room)
