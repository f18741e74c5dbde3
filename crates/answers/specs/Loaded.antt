-- What a reader into a ledger answers.
use Rattle.std.specs.Prelude.{ℕ, Result, ⊤}

-- nothing, or the number by which it was refused
abbrev pub Loaded : Type 0
Loaded = Result ⊤ ℕ
