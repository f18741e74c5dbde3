-- The texts between the commas of a list, in both directions.
use Rattle.std.specs.Prelude.{ℕ, ◌<◌, ◌≡◌, List, [], ◌∷◌, ◌++◌, length, get_or}
use Rattle.octets.specs.Cases.{AllHold}
use Rattle.rangelists.specs.RangeText.{parts}

-- texts with a comma between each two
unfoldable pub with_commas : List (List ℕ) → List ℕ
with_commas [] = []
with_commas (t ∷ []) = t
with_commas (t ∷ u ∷ ts) = t ++ (44 ∷ with_commas (u ∷ ts))

abbrev pub NoComma : List ℕ → Type 0
NoComma text = (i : ℕ) → i < length text → get_or text i 0 ≡ 44 → ⊥

pub record Parts : Type 0 where
  -- a text has one part or more, none holds a comma, and with commas between them they are the text
  pub some : (text : List ℕ) → 0 < length (parts text)
  pub no_comma : (text : List ℕ) → AllHold NoComma (parts text)
  pub joined : (text : List ℕ) → with_commas (parts text) ≡ text
  -- no other texts are its parts
  pub only : (ts : List (List ℕ)) → 0 < length ts → AllHold NoComma ts → parts (with_commas ts) ≡ ts
