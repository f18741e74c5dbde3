-- A console's state, what it is told, and what it answers (document 02, Item 9).
use Rattle.std.specs.Prelude.{ℕ, true, false, Option, Some, None as NoCode, List}
use Rattle.verdicts.specs.declared.verdict.Verdict.{Verdict}
use Rattle.console.specs.declared.state.Console.{Console}
use Rattle.console.specs.declared.state.Endpoint.{Endpoint}
use Rattle.console.specs.declared.state.Endpoint.TheVariants.{None}
use Rattle.console.specs.declared.state.Answer.{Answer}

-- a line of the control channel, or the end of the transfer with its verdict
pub data Event : Type 0 where
  line : List ℕ → Event
  ending : Verdict → Event

-- mode E not asked for, no endpoint, no transfer running
abbrev pub beginning : Console
beginning = record { extended = false; endpoint = None; running = false }

-- ---- what changes

abbrev pub asked : Console → Console
asked s = record { extended = true; endpoint = s.endpoint; running = s.running }

abbrev pub at_endpoint : Console → Endpoint → Console
at_endpoint s e = record { extended = s.extended; endpoint = e; running = s.running }

abbrev pub started : Console → Console
started s = record { extended = s.extended; endpoint = s.endpoint; running = true }

abbrev pub ended : Console → Console
ended s = record { extended = s.extended; endpoint = None; running = false }

-- ---- the answer: the console afterwards, the code, where there is one, and whether the word SUSPECT goes with it

abbrev pub gets : Console → ℕ → Answer
gets s code = record { console = s; code = Some code; suspect = false }

abbrev pub gets_with_suspect : Console → ℕ → Answer
gets_with_suspect s code = record { console = s; code = Some code; suspect = true }

abbrev pub silent : Console → Answer
silent s = record { console = s; code = NoCode; suspect = false }

-- a code, 0 where there is none
abbrev pub code_in : Option ℕ → ℕ
code_in (Some code) = code
code_in NoCode = 0
