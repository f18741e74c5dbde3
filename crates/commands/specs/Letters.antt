-- Which bytes are letters, and each letter in upper case (document 01, "Control lines": letters of either case).
use Rattle.std.specs.Prelude.{ℕ, ◌-◌, ◌≤◌, ◌<◌, ◌≡◌, ◌⊎◌, true, false}
use Rattle.texts.specs.Text.{is_letter}
use Rattle.commands.specs.Line.{upper}

pub record Letters : Type 0 where
  -- A to Z
  pub capital : (b : ℕ) → 65 ≤ b → b ≤ 90 → (is_letter b ≡ true) × (upper b ≡ b)
  -- a to z
  pub small : (b : ℕ) → 97 ≤ b → b ≤ 122 → (is_letter b ≡ true) × (upper b ≡ b - 32)
  -- every other byte
  pub other : (b : ℕ) → (b < 65) ⊎ (((90 < b) × (b < 97)) ⊎ (122 < b)) → (is_letter b ≡ false) × (upper b ≡ b)
