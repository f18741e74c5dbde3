-- A console's state, an answer and a verdict as a host has them: numbers in place of cases, of which every one means something.
use Rattle.std.specs.Prelude.{ℕ, Bool, cond, ltb, eqb}
use Rattle.verdicts.specs.declared.verdict.Verdict.{Verdict}
use Rattle.verdicts.specs.declared.verdict.Verdict.TheVariants.{Guess, Result, Suspect, Broken}
use Rattle.console.specs.Console.{code_in}
use Rattle.console.specs.declared.state.Console.{Console}
use Rattle.console.specs.declared.state.Endpoint.{Endpoint}
use Rattle.console.specs.declared.state.Endpoint.TheVariants.{None, Listening, Connecting}
use Rattle.console.specs.declared.state.Answer.{Answer}
use Rattle.host.specs.declared.consoles.ConsoleNumbers.{ConsoleNumbers}
use Rattle.host.specs.declared.consoles.Answered.{Answered}

-- ---- what a host hands over

abbrev pub endpoint_meant : ℕ → Endpoint
endpoint_meant n = cond (eqb n 1) Listening (cond (eqb n 2) Connecting None)

abbrev pub console_meant : ConsoleNumbers → Console
console_meant n = record { extended = ltb 0 n.extended; endpoint = endpoint_meant n.endpoint; running = ltb 0 n.running }

abbrev pub verdict_meant : ℕ → Verdict
verdict_meant n = cond (eqb n 1) Result (cond (eqb n 2) Broken (cond (eqb n 3) Suspect Guess))

-- ---- what it gets

abbrev pub one_if : Bool → ℕ
one_if b = cond b 1 0

abbrev pub endpoint_code : Endpoint → ℕ
endpoint_code None = 0
endpoint_code Listening = 1
endpoint_code Connecting = 2

abbrev pub numbers_of : Console → ConsoleNumbers
numbers_of s = record { extended = one_if s.extended; endpoint = endpoint_code s.endpoint; running = one_if s.running }

abbrev pub answered_by : Answer → Answered
answered_by a = record { console = numbers_of a.console; code = code_in a.code; suspect = one_if a.suspect }
