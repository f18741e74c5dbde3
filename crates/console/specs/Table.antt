-- Document 02's table of the console (Item 9) in terms of the texts: a field for each sentence, with what the lower crates promise of a line (`CommandLine`,
-- `RefusedBy`), a host-port list (`ListText`) and a range list (`HasMalformed`).
use Rattle.std.specs.Prelude.{ℕ, ◌≤◌, ◌≡◌, ◌⊎◌, ◌≢◌, Bool, true, false, Option, Some, None as NoCode, List, [], ◌∷◌}
use Rattle.commands.specs.Accepted.{CommandLine}
use Rattle.commands.specs.Refused.{RefusedBy}
use Rattle.hostports.specs.HostPorts.{HostPortNumerals, host_port_text}
use Rattle.hostlists.specs.HostLists.{ListText}
use Rattle.rangelists.specs.MalformedRanges.{HasMalformed}
use Rattle.verdicts.specs.declared.verdict.Verdict.{Verdict}
use Rattle.verdicts.specs.declared.verdict.Verdict.TheVariants.{Guess, Result, Suspect, Broken}
use Rattle.console.specs.declared.state.Console.{Console}
use Rattle.console.specs.declared.state.Endpoint.{Endpoint}
use Rattle.console.specs.declared.state.Endpoint.TheVariants.{None, Listening, Connecting}
use Rattle.console.specs.declared.state.Answer.{Answer}
use Rattle.console.specs.Console.{Event, line, ending}
use Rattle.console.specs.Rows.{MODE, PASV, PORT, REST, RETR, STOR, SPAS, SPOR, ERET, ESTO, SBUF, OPTS, Row, mode_e, mode_other, too_early, pasv, spas, port, port_refused, spor, spor_refused, stor, stor_refused, retr, retr_refused, rest, rest_refused, sbuf_opts, line_refused, argument_refused, while_running, end_result, end_suspect, end_broken, end_guess, end_of_none}

-- the line is a command with this verb and this argument
abbrev pub Command : List ℕ → ℕ → List ℕ → Type 0
Command l v text = (word : List ℕ) × (spaces : ℕ) × CommandLine l word text v spaces

-- and it comes while no transfer runs
abbrev pub Asks : Console → List ℕ → ℕ → List ℕ → Type 0
Asks s l v text = (s.running ≡ false) × Command l v text

-- E (69), in either case
abbrev pub IsE : List ℕ → Type 0
IsE text = (text ≡ 69 ∷ []) ⊎ (text ≡ 101 ∷ [])

-- exactly one host-port
abbrev pub IsHostPort : List ℕ → Type 0
IsHostPort text = (h : HostPortNumerals) × (text ≡ host_port_text h)

-- the console with mode E asked for or not, with this endpoint, and with a transfer running or not
abbrev pub console : Bool → Endpoint → Bool → Console
console asked endpoint running = record { extended = asked; endpoint = endpoint; running = running }

-- the console afterwards, the code, where there is one, and whether the word SUSPECT goes with it
abbrev pub answer : Console → Option ℕ → Bool → Answer
answer s code word = record { console = s; code = code; suspect = word }

-- `Answers s e r a`: in the state s the event e falls under the row r and gets the answer a
pub record Table (Answers : Console → Event → Row → Answer → Type 0) : Type 0 where
  -- MODE
  pub mode_e_gets_200 : (s : Console) (l text : List ℕ) → Asks s l MODE text → IsE text → Answers s (line l) mode_e (answer (console true s.endpoint s.running) (Some 200) false)
  pub other_mode_gets_504 : (s : Console) (l text : List ℕ) → Asks s l MODE text → (IsE text → ⊥) → Answers s (line l) mode_other (answer s (Some 504) false)
  -- SPAS and SPOR need mode E, whatever SPOR's text is
  pub too_early_gets_503 : (s : Console) (l text : List ℕ) (v : ℕ) → Asks s l v text → (v ≡ SPAS) ⊎ (v ≡ SPOR) → s.extended ≡ false
      → Answers s (line l) too_early (answer s (Some 503) false)
  -- the endpoint, which takes the place of the one before
  pub pasv_gets_227 : (s : Console) (l text : List ℕ) → Asks s l PASV text → Answers s (line l) pasv (answer (console s.extended Listening s.running) (Some 227) false)
  pub spas_gets_229 : (s : Console) (l text : List ℕ) → Asks s l SPAS text → s.extended ≡ true → Answers s (line l) spas (answer (console s.extended Listening s.running) (Some 229) false)
  pub port_gets_200 : (s : Console) (l text : List ℕ) → Asks s l PORT text → IsHostPort text → Answers s (line l) port (answer (console s.extended Connecting s.running) (Some 200) false)
  pub spor_gets_200 : (s : Console) (l text : List ℕ) → Asks s l SPOR text → s.extended ≡ true → ListText text
      → Answers s (line l) spor (answer (console s.extended Connecting s.running) (Some 200) false)
  pub port_gets_501 : (s : Console) (l text : List ℕ) → Asks s l PORT text → (IsHostPort text → ⊥) → Answers s (line l) port_refused (answer s (Some 501) false)
  pub spor_gets_501 : (s : Console) (l text : List ℕ) → Asks s l SPOR text → s.extended ≡ true → (ListText text → ⊥)
      → Answers s (line l) spor_refused (answer s (Some 501) false)
  -- the transfer
  pub stor_gets_150 : (s : Console) (l text : List ℕ) (v : ℕ) → Asks s l v text → (v ≡ STOR) ⊎ (v ≡ ESTO) → s.extended ≡ true → s.endpoint ≡ Listening
      → Answers s (line l) stor (answer (console s.extended s.endpoint true) (Some 150) false)
  pub stor_gets_503 : (s : Console) (l text : List ℕ) (v : ℕ) → Asks s l v text → (v ≡ STOR) ⊎ (v ≡ ESTO) → (s.extended ≡ false) ⊎ (s.endpoint ≢ Listening)
      → Answers s (line l) stor_refused (answer s (Some 503) false)
  pub retr_gets_150 : (s : Console) (l text : List ℕ) (v : ℕ) → Asks s l v text → (v ≡ RETR) ⊎ (v ≡ ERET) → s.extended ≡ true → s.endpoint ≡ Connecting
      → Answers s (line l) retr (answer (console s.extended s.endpoint true) (Some 150) false)
  pub retr_gets_503 : (s : Console) (l text : List ℕ) (v : ℕ) → Asks s l v text → (v ≡ RETR) ⊎ (v ≡ ERET) → (s.extended ≡ false) ⊎ (s.endpoint ≢ Connecting)
      → Answers s (line l) retr_refused (answer s (Some 503) false)
  -- the three that change nothing
  pub rest_gets_350 : (s : Console) (l text : List ℕ) → Asks s l REST text → (HasMalformed text → ⊥) → Answers s (line l) rest (answer s (Some 350) false)
  pub rest_gets_501 : (s : Console) (l text : List ℕ) → Asks s l REST text → HasMalformed text → Answers s (line l) rest_refused (answer s (Some 501) false)
  pub sbuf_opts_get_200 : (s : Console) (l text : List ℕ) (v : ℕ) → Asks s l v text → (v ≡ SBUF) ⊎ (v ≡ OPTS) → Answers s (line l) sbuf_opts (answer s (Some 200) false)
  -- judged first, in every state: a line that is refused, with 31 to 34 or with 35; then, while a transfer runs, every command
  pub refused_line_gets_500 : (s : Console) (l : List ℕ) (k : ℕ) → RefusedBy l k → k ≤ 34 → Answers s (line l) line_refused (answer s (Some 500) false)
  pub refused_argument_gets_501 : (s : Console) (l : List ℕ) → RefusedBy l 35 → Answers s (line l) argument_refused (answer s (Some 501) false)
  pub running_gets_503 : (s : Console) (l text : List ℕ) (v : ℕ) → s.running ≡ true → Command l v text → Answers s (line l) while_running (answer s (Some 503) false)
  -- the end of the transfer that runs
  pub result_gets_226 : (s : Console) → s.running ≡ true → Answers s (ending Result) end_result (answer (console s.extended None false) (Some 226) false)
  pub suspect_gets_226 : (s : Console) → s.running ≡ true → Answers s (ending Suspect) end_suspect (answer (console s.extended None false) (Some 226) true)
  pub broken_gets_426 : (s : Console) → s.running ≡ true → Answers s (ending Broken) end_broken (answer (console s.extended None false) (Some 426) false)
  -- the ends that do nothing
  pub guess_gets_0 : (s : Console) → s.running ≡ true → Answers s (ending Guess) end_guess (answer s NoCode false)
  pub end_of_none_gets_0 : (s : Console) (v : Verdict) → s.running ≡ false → Answers s (ending v) end_of_none (answer s NoCode false)
