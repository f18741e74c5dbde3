-- Which command lines are accepted, with which verb and argument.
use Rattle.std.specs.Prelude.{ℕ, ◌-◌, ◌≤◌, ◌<◌, ◌≡◌, ◌⊎◌, ◌≢◌, true, List, [], ◌∷◌, ◌++◌, map, length, get_or, replicate}
use Rattle.texts.specs.Text.{is_letter, all}
use Rattle.answers.specs.Refusal.{number_in}
use Rattle.commands.specs.Line.{upper, verbs, read_of, argument_of, verb}

-- every byte is one of 32 to 126
abbrev pub Printable : List ℕ → Type 0
Printable text = (i : ℕ) → i < length text → (32 ≤ get_or text i 0) × (get_or text i 0 ≤ 126)

-- the word is the verb with that number, in letters of either case
pub record IsVerb (word : List ℕ) (v : ℕ) : Type 0 where
  pub letters : all is_letter word ≡ true
  pub one_to_twelve : (0 < v) × (v ≤ 12)
  pub upper_case : map upper word ≡ get_or verbs (v - 1) []

-- PASV and SPAS
abbrev pub TakesNoArgument : ℕ → Type 0
TakesNoArgument v = (v ≡ 2) ⊎ (v ≡ 7)

-- a word of letters, spaces, an argument, CR LF
pub record CommandLine (line word argument : List ℕ) (v spaces : ℕ) : Type 0 where
  pub whole : line ≡ word ++ (replicate spaces 32 ++ (argument ++ (13 ∷ 10 ∷ [])))
  pub short : length line ≤ 2048
  pub printable : Printable argument
  pub verb_is : IsVerb word v
  -- PASV and SPAS have neither spaces nor an argument, another verb both
  pub no_argument : TakesNoArgument v → (spaces ≡ 0) × (argument ≡ [])
  pub with_argument : (TakesNoArgument v → ⊥) → (0 < spaces) × (0 < length argument)
  -- the argument begins at the first byte that is no space
  pub first : get_or argument 0 0 ≢ 32

pub record AcceptedLines : Type 0 where
  -- a line that is accepted is a command line, and its argument is what is handed back
  pub accepted_is : (line : List ℕ) → number_in (read_of line) ≡ 0
      → (word : List ℕ) × (spaces : ℕ) × CommandLine line word (argument_of (read_of line) line) (verb (read_of line)) spaces
  -- a command line is accepted, with its verb and its argument
  pub command_line_accepted : (line word argument : List ℕ) (v spaces : ℕ) → CommandLine line word argument v spaces
      → (number_in (read_of line) ≡ 0) × (verb (read_of line) ≡ v) × (argument_of (read_of line) line ≡ argument)
