-- What each byte of a header's two numbers weighs: the first most, 256 times the next.
use Rattle.std.specs.Prelude.{ℕ, ◌+◌, ◌*◌, ◌≡◌, List, ◌∷◌}
use Rattle.eblock.specs.Header.{second_of, third_of}

-- a is the most significant of eight bytes
abbrev pub weighted_sum : ℕ → ℕ → ℕ → ℕ → ℕ → ℕ → ℕ → ℕ → ℕ
weighted_sum a b c d e f g h =
    72057594037927936 * a + 281474976710656 * b + 1099511627776 * c + 4294967296 * d + 16777216 * e + 65536 * f + 256 * g + h

pub record Weights : Type 0 where
  pub second : (s a b c d e f g h : ℕ) (r : List ℕ) → second_of (s ∷ a ∷ b ∷ c ∷ d ∷ e ∷ f ∷ g ∷ h ∷ r) ≡ weighted_sum a b c d e f g h
  pub third : (s t u v w x y z k a b c d e f g h : ℕ) (r : List ℕ)
      → third_of (s ∷ t ∷ u ∷ v ∷ w ∷ x ∷ y ∷ z ∷ k ∷ a ∷ b ∷ c ∷ d ∷ e ∷ f ∷ g ∷ h ∷ r) ≡ weighted_sum a b c d e f g h
