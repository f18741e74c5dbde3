-- A text written into lent bytes from a place on.
use Rattle.std.specs.Prelude.{ℕ, ◌+◌, ◌≡◌, List, length}
use Rattle.std.proofs.lemmas.List.Edits.{sets}

-- into the lent bytes out, from the place `at` on: the place after the text, and the lent bytes then
abbrev pub WritesAt : List ℕ → ℕ → List ℕ → ℕ → List ℕ → Type 0
WritesAt out at text end after = (end ≡ at + length text) × (after ≡ sets out at text)
