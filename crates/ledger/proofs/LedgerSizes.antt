-- The number of a ledger's entries, refused or not, and how large they are.
use Prim.Native.Nat.{ℕ, suc, ◌%◌, ◌≤◌, ◌<◌}
use mathlib.Core.Path.{◌≡◌, refl, sym}
use mathlib.Core.Logic.{◌⊎◌, inl, inr}
use mathlib.Core.Bool.{Bool, true, false, cond, ◌&&◌, false≢true, and-true}
use mathlib.Core.List.{List, [], ◌∷◌}
use native.Mathlib.Omega.{arith}
use borrow.Author.Tests.{le-ltb, le-leb, eq-eqb, eqb-true, ltb-false}
use lib.Dec.{ltb, eqb}
use lib.ListN.{length, get_or}
use Rattle.ledger.specs.Pairs.{none, pair, ends_at_most}
use Rattle.ledger.specs.Ledger.{entry_limit, largest, length_wrong, obeys, pairs_of}

pub length-right : (l : List ℕ) → length l % 2 ≡ 0 → length l ≤ entry_limit → length_wrong l ≡ false
unfolding length_wrong
length-right l e h = rw (eq-eqb (length l % 2) 0 e, le-ltb entry_limit (length l) h)

pub length-fits : (l : List ℕ) → length_wrong l ≡ false → (length l % 2 ≡ 0) × (length l ≤ entry_limit)
unfolding length_wrong
length-fits l h = go (eqb (length l % 2) 0) (ltb entry_limit (length l)) refl refl
  where
    go : (s t : Bool) → eqb (length l % 2) 0 ≡ s → ltb entry_limit (length l) ≡ t → (length l % 2 ≡ 0) × (length l ≤ entry_limit)
    go true false e g = (eqb-true (length l % 2) 0 e, ltb-false entry_limit (length l) g)
    go true true e g = absurd (false≢true (sym (rw (e, g) at h)))
    go false t e g = absurd (false≢true (sym (rw e at h)))

pub length-wrong : (l : List ℕ) → (length l % 2 ≡ 1) ⊎ (entry_limit < length l) → length_wrong l ≡ true
length-wrong l o = go (length_wrong l) refl o
  where
    go : (t : Bool) → length_wrong l ≡ t → (length l % 2 ≡ 1) ⊎ (entry_limit < length l) → t ≡ true
    go true e o = refl
    go false e (inl h) = absurd (omega (arith, (length-fits l e).0))
    go false e (inr h) = absurd (omega (arith, (length-fits l e).1))

-- no end is above the largest number of 64 bits, where each entry is one
pub ends-fit : (l : List ℕ) → ((i : ℕ) → get_or l i 0 < 18446744073709551616) → ends_at_most largest (pairs_of l) ≡ true
unfolding ends_at_most pairs_of
ends-fit [] h = refl
ends-fit (a ∷ []) h = refl
ends-fit (a ∷ b ∷ rest) h = go (eqb b 0) (ends-fit rest (λ i. h (suc (suc i))))
  where
    go : (t : Bool) → ends_at_most largest (pairs_of rest) ≡ true → ends_at_most largest (cond t none (pair a b (pairs_of rest))) ≡ true
    go true i = refl
    go false i = rw (le-leb b largest (omega (arith, h 1)), i)

-- only the rule is judged there
pub obeys-fits : (l : List ℕ) → ((i : ℕ) → get_or l i 0 < 18446744073709551616) → (obeys l && ends_at_most largest (pairs_of l)) ≡ obeys l
obeys-fits l h = rw (ends-fit l h) (and-true (obeys l))

pub ruleset only_ruled = (obeys-fits)
