-- The spaces that a text begins with.
use Prim.Native.Nat.{ℕ, zero, suc, ◌+◌, ◌<◌}
use mathlib.Core.Path.{◌≡◌, refl, ap}
use mathlib.Core.Logic.{◌⊎◌, inl, inr, ◌≢◌}
use mathlib.Core.Bool.{Bool, true, false}
use mathlib.Core.List.{List, [], ◌∷◌, ◌++◌}
use native.Mathlib.Omega.{arith}
use borrow.Author.Tests.{eq-eqb, ne_eqb, eqb-true}
use lib.ListN.{length, get_or, take, replicate}
use Rattle.texts.specs.Text.{is_space, leading_count}

pub spaces-over : (n : ℕ) (rest : List ℕ) → leading_count is_space (replicate n 32 ++ rest) ≡ n + leading_count is_space rest
unfolding leading_count
spaces-over zero rest = omega arith
spaces-over (suc n) rest = omega (arith, spaces-over n rest)

pub spaces-taken : (text : List ℕ) → take (leading_count is_space text) text ≡ replicate (leading_count is_space text) 32
unfolding leading_count
spaces-taken [] = refl
spaces-taken (b ∷ bs) = go (is_space b) refl (spaces-taken bs)
  where
    go : (k : Bool) → is_space b ≡ k → take (leading_count is_space bs) bs ≡ replicate (leading_count is_space bs) 32 → take (leading_count is_space (b ∷ bs)) (b ∷ bs) ≡ replicate (leading_count is_space (b ∷ bs)) 32
    go true e h = rw (e, h, eqb-true b 32 e)
    go false e h = rw e

-- a text whose first byte is no space begins with none, and the other way round
pub no-space : (text : List ℕ) → get_or text 0 0 ≢ 32 → leading_count is_space text ≡ 0
unfolding leading_count
no-space [] n = refl
no-space (b ∷ bs) n = rw (ne_eqb b 32 n)

pub space-first : (text : List ℕ) → 0 < length text → (text ≡ []) ⊎ (get_or text 0 0 ≡ 32) → 0 < leading_count is_space text
unfolding leading_count
space-first text h (inl e) = absurd (omega (arith, ap length e))
space-first [] h (inr e) = absurd (omega arith)
space-first (b ∷ bs) h (inr e) = rw (eq-eqb b 32 e) (omega arith)

pub first-no-space : (text : List ℕ) → leading_count is_space text ≡ 0 → get_or text 0 0 ≢ 32
unfolding leading_count
first-no-space [] z e = omega arith
first-no-space (b ∷ bs) z e =
    let s = space-first (b ∷ bs) (omega arith) (inr e) in
    omega arith
