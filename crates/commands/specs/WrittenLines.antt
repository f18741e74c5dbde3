-- Lines that are written, not read: each verb in capitals, with an argument and without. And how long an argument can be.
use Rattle.std.specs.Prelude.{ℕ, ◌-◌, ◌≤◌, ◌<◌, ◌≡◌, ◌⊎◌, ◌≢◌, List, [], ◌∷◌, ◌++◌, length, get_or}
use Rattle.commands.specs.Line.{verbs}
use Rattle.commands.specs.Accepted.{CommandLine}
use Rattle.commands.specs.Refused.{RefusedBy}

-- the verb with that number, from 1
abbrev pub name_of : ℕ → List ℕ
name_of v = get_or verbs (v - 1) []

-- the verb, one space, the argument, CR LF
abbrev pub line_of : ℕ → List ℕ → List ℕ
line_of v argument = name_of v ++ (32 ∷ (argument ++ (13 ∷ 10 ∷ [])))

-- the verb, CR LF
abbrev pub bare_line : ℕ → List ℕ
bare_line v = name_of v ++ (13 ∷ 10 ∷ [])

-- a text that can be an argument: bytes of 32 to 126, the first no space
pub record Argument (text : List ℕ) : Type 0 where
  pub some : 0 < length text
  pub few : length text ≤ 2041
  pub printable : (i : ℕ) → i < length text → (32 ≤ get_or text i 0) × (get_or text i 0 ≤ 126)
  pub first : get_or text 0 0 ≢ 32

pub record WrittenLines : Type 0 where
  -- of 2,048 bytes four are the verb, one at least is a space, and two are CR LF
  pub longest_argument : (line word argument : List ℕ) (v spaces : ℕ) → CommandLine line word argument v spaces → length argument ≤ 2041
  -- a verb that takes an argument: with one its line is a command, and without it is refused with 35
  pub with_argument : (v : ℕ) (argument : List ℕ) → 0 < v → v ≤ 12 → v ≢ 2 → v ≢ 7 → Argument argument → CommandLine (line_of v argument) (name_of v) argument v 1
  pub missing_argument : (v : ℕ) → 0 < v → v ≤ 12 → v ≢ 2 → v ≢ 7 → RefusedBy (bare_line v) 35
  -- PASV and SPAS
  pub without_argument : (v : ℕ) → (v ≡ 2) ⊎ (v ≡ 7) → CommandLine (bare_line v) (name_of v) [] v 0
