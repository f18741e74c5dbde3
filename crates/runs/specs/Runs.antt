-- A run of bytes of a piece: what a call takes at once where the definition goes byte by byte.
use Rattle.std.specs.Prelude.{◌≡◌, ℕ, ◌+◌, Bool, true, false, ◌⊎◌, List, ◌++◌, take}
use Rattle.transfer.specs.Transfer.{World}
use Rattle.transfer.specs.Receive.{Answer, took, take_byte, take_bytes}
use Rattle.verdicts.specs.Verdict.{count_reached}

-- a channel in that state takes bytes for a header: unused, where its first byte does not give 19, or in a header
abbrev pub TakesHeader : ℕ → ℕ → ℕ → Type 0
TakesHeader state count used = ((state ≡ 0) × (count_reached count used ≡ false)) ⊎ (state ≡ 1)

abbrev pub take_bytes_on : ℕ → World → List ℕ → ℕ → Answer × World
take_bytes_on c w piece k = take_bytes (λ v b. take_byte v c b) w piece k

-- the first n bytes of the piece lead from w to v, and the call continues after them, or it stops there
pub record RunOf (c : ℕ) (w : World) (piece : List ℕ) (v : World) (n : ℕ) (continues : Bool) : Type 0 where
  pub if_continues : continues ≡ true → (rest : List ℕ) (k : ℕ) → take_bytes_on c w (take n piece ++ rest) k ≡ take_bytes_on c v rest (k + n)
  pub if_stops : continues ≡ false → (k : ℕ) → take_bytes_on c w piece k ≡ (took (k + n), v)
