-- The verbs by their names, in document 01's order ("Control lines").
use Rattle.std.specs.Prelude.{ℕ, ◌≡◌, List, [], ◌∷◌, map}
use Prim.Native.Char.{code}
use Prim.Native.String.{String, [] as none, ◌∷◌ as ◌then◌}
use Rattle.commands.specs.Line.{verbs}

-- the bytes of a text in ASCII
unfoldable pub bytes : String → List ℕ
bytes none = []
bytes (c then s) = code c ∷ bytes s

pub record VerbNames : Type 0 where
  pub twelve : verbs ≡ map bytes ("MODE" ∷ "PASV" ∷ "PORT" ∷ "REST" ∷ "RETR" ∷ "STOR" ∷ "SPAS" ∷ "SPOR" ∷ "ERET" ∷ "ESTO" ∷ "SBUF" ∷ "OPTS" ∷ [])
