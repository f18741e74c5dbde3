-- `Parts` holds.
use Prim.Native.Nat.{ℕ, zero, suc, ◌<◌}
use mathlib.Core.Path.{◌≡◌, refl, ap, ◌∙◌}
use mathlib.Core.Bool.{Bool, true, false, cond}
use mathlib.Core.List.{List, [], ◌∷◌, ◌++◌}
use native.Mathlib.Omega.{arith}
use borrow.Author.Tests.{ne_eqb, eqb-true, eqb-false}
use lib.Dec.{eqb}
use lib.ListN.{length}
use Rattle.octets.specs.Cases.{AllHold}
use Rattle.rangelists.specs.RangeText.{prepend_to_first, parts}
use Rattle.rangelists.specs.Parts.{with_commas, NoComma, Parts}

-- ---- texts without a comma

pub no-comma-cons : (b : ℕ) (t : List ℕ) → (b ≡ 44 → ⊥) → NoComma t → NoComma (b ∷ t)
no-comma-cons b t n h zero l e = n e
no-comma-cons b t n h (suc i) l e = h i (omega arith) e

pub no-comma-append : (t u : List ℕ) → NoComma t → NoComma u → NoComma (t ++ u)
no-comma-append [] u h g = g
no-comma-append (b ∷ t) u h g = no-comma-cons b (t ++ u) (h 0 (omega arith)) (no-comma-append t u (λ i l. h (suc i) (omega arith)) g)

-- ---- from the text to its parts

parts-some : (text : List ℕ) → 0 < length (parts text)
unfolding parts prepend_to_first
parts-some [] = omega arith
parts-some (b ∷ bs) = go (eqb b 44) (parts bs)
  where
    go : (t : Bool) (ts : List (List ℕ)) → 0 < length (cond t ([] ∷ ts) (prepend_to_first b ts))
    go true ts = omega arith
    go false [] = omega arith
    go false (t ∷ ts) = omega arith

no-comma-parts : (text : List ℕ) → AllHold NoComma (parts text)
unfolding parts prepend_to_first
no-comma-parts [] = (λ i l. absurd (omega arith), tt)
no-comma-parts (b ∷ bs) = go (eqb b 44) refl (parts bs) (no-comma-parts bs)
  where
    go : (t : Bool) → eqb b 44 ≡ t → (ts : List (List ℕ)) → AllHold NoComma ts → AllHold NoComma (cond t ([] ∷ ts) (prepend_to_first b ts))
    go true e ts h = (λ i l. absurd (omega arith), h)
    go false e [] h = (no-comma-cons b [] (eqb-false b 44 e) (λ i l. absurd (omega arith)), tt)
    go false e (t ∷ ts) h = (no-comma-cons b t (eqb-false b 44 e) h.0, h.1)

parts-joined : (text : List ℕ) → with_commas (parts text) ≡ text
unfolding parts prepend_to_first with_commas
parts-joined [] = refl
parts-joined (b ∷ bs) = go (eqb b 44) refl (parts bs) (parts-some bs) (parts-joined bs)
  where
    go : (t : Bool) → eqb b 44 ≡ t → (ts : List (List ℕ)) → 0 < length ts → with_commas ts ≡ bs → with_commas (cond t ([] ∷ ts) (prepend_to_first b ts)) ≡ b ∷ bs
    go t e [] h g = absurd (omega arith)
    go true e (t ∷ ts) h g = rw (g, eqb-true b 44 e)
    go false e (t ∷ []) h g = rw g
    go false e (t ∷ u ∷ ts) h g = ap (λ (l : List ℕ). b ∷ l) g

-- ---- from the parts to the text

part-alone : (t : List ℕ) → NoComma t → parts t ≡ t ∷ []
unfolding parts prepend_to_first
part-alone [] h = refl
part-alone (b ∷ t) h = rw (ne_eqb b 44 (h 0 (omega arith)), part-alone t (λ i l. h (suc i) (omega arith)))

part-first : (t u : List ℕ) → NoComma t → parts (t ++ (44 ∷ u)) ≡ t ∷ parts u
unfolding parts prepend_to_first
part-first [] u h = refl
part-first (b ∷ t) u h = rw (ne_eqb b 44 (h 0 (omega arith)), part-first t u (λ i l. h (suc i) (omega arith)))

pub parts-only : (ts : List (List ℕ)) → 0 < length ts → AllHold NoComma ts → parts (with_commas ts) ≡ ts
unfolding with_commas
parts-only [] h g = absurd (omega arith)
parts-only (t ∷ []) h g = part-alone t g.0
parts-only (t ∷ u ∷ ts) h g =
    part-first t (with_commas (u ∷ ts)) g.0 ∙ ap (λ (us : List (List ℕ)). t ∷ us) (parts-only (u ∷ ts) (omega arith) g.1)

pub parted : Parts
parted = record { some = parts-some; no_comma = no-comma-parts; joined = parts-joined; only = parts-only }
