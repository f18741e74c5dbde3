-- Which bytes are letters, and each letter in upper case: `Letters` holds.
use Prim.Native.Nat.{ℕ, ◌-◌, ◌≤◌, ◌<◌}
use mathlib.Core.Path.{◌≡◌}
use mathlib.Core.Logic.{◌⊎◌, inl, inr}
use mathlib.Core.Bool.{true, false}
use native.Mathlib.Omega.{arith}
use Rattle.texts.specs.Text.{is_capital, is_small, is_letter}
use Rattle.texts.proofs.Texts.{between-true, between-false}
use Rattle.commands.specs.Line.{upper}
use Rattle.commands.specs.Letters.{Letters}

capital : (b : ℕ) → 65 ≤ b → b ≤ 90 → (is_letter b ≡ true) × (upper b ≡ b)
capital b l h = (rw (between-true 65 90 b l h), rw (between-false 97 122 b (inl (omega arith))))

small : (b : ℕ) → 97 ≤ b → b ≤ 122 → (is_letter b ≡ true) × (upper b ≡ b - 32)
small b l h = (rw (between-false 65 90 b (inr (omega arith)), between-true 97 122 b l h), rw (between-true 97 122 b l h))

none : (b : ℕ) → is_capital b ≡ false → is_small b ≡ false → (is_letter b ≡ false) × (upper b ≡ b)
none b c s = (rw (c, s), rw s)

other : (b : ℕ) → (b < 65) ⊎ (((90 < b) × (b < 97)) ⊎ (122 < b)) → (is_letter b ≡ false) × (upper b ≡ b)
other b (inl l) = none b (between-false 65 90 b (inl l)) (between-false 97 122 b (inl (omega arith)))
other b (inr (inl m)) = none b (between-false 65 90 b (inr m.0)) (between-false 97 122 b (inl m.1))
other b (inr (inr h)) = none b (between-false 65 90 b (inr (omega arith))) (between-false 97 122 b (inr h))

pub letters : Letters
letters = record { capital = capital; small = small; other = other }
