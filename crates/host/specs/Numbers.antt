-- The field `refused` of what a host has is document 01's number of the answer, 0 where nothing is refused; a writer's `length` is how many bytes it wrote;
-- a word is a code; and a console's state is numbers.
use Rattle.std.specs.Prelude.{ℕ, ◌<◌, ◌≡◌, ◌⊎◌, Result, Ok, Err, true, false, [], ◌∷◌, map}
use Rattle.eblock.specs.declared.header.Header.{Header}
use Rattle.answers.specs.Refusal.{number_in}
use Rattle.answers.specs.Written.{Written, written_bytes}
use Rattle.commands.specs.Line.{Said, verb}
use Rattle.savedledgers.specs.Saved.{loaded_for_length}
use Rattle.sender.specs.declared.state.Sender.{Sender}
use Rattle.transfer.specs.Transfer.{World, guess, result, suspect, broken, verdict_of}
use Rattle.transfer.specs.Receive.{refused, took}
use Rattle.verdicts.specs.Verdict.{to_verdict}
use Rattle.verdicts.specs.declared.verdict.Verdict.{Verdict}
use Rattle.verdicts.specs.declared.verdict.Verdict.TheVariants.{Guess}
use Rattle.console.specs.declared.state.Console.{Console}
use Rattle.console.specs.declared.state.Endpoint.TheVariants.{None, Listening, Connecting}
use Rattle.console.specs.declared.state.Answer.{Answer}
use Rattle.console.specs.Console.{beginning, code_in}
use Rattle.receiver.specs.declared.show.Shown.{Shown}
use Rattle.host.specs.Received.{verdict_code, received_by}
use Rattle.host.specs.Header.{fields_of}
use Rattle.host.specs.Written.{written_of}
use Rattle.host.specs.Loaded.{loaded_for_of}
use Rattle.host.specs.Line.{command_of}
use Rattle.host.specs.Hosts.{host_port_count_of}
use Rattle.host.specs.Sending.{sent_by}
use Rattle.host.specs.Shown.{shown_by}
use Rattle.host.specs.Consoles.{endpoint_meant, verdict_meant, console_meant, one_if, endpoint_code, numbers_of, answered_by}
use Rattle.host.specs.declared.consoles.ConsoleNumbers.{ConsoleNumbers}

pub record Numbers : Type 0 where
  pub header : (x : Result Header ℕ) → (fields_of x).refused ≡ number_in x
  pub line : (x : Result Said ℕ) → (command_of x).refused ≡ number_in x
  pub verb_is : (x : Result Said ℕ) → (command_of x).verb ≡ verb x
  pub written : (x : Written) → ((written_of x).length ≡ written_bytes x) × ((written_of x).refused ≡ number_in x)
  pub loaded_for : (x : Result ℕ ℕ) → ((loaded_for_of x).length ≡ loaded_for_length x) × ((loaded_for_of x).refused ≡ number_in x)
  pub sent : (x : Written) (s : Sender) → ((sent_by x s).length ≡ written_bytes x) × ((sent_by x s).refused ≡ number_in x) × ((sent_by x s).sender ≡ s)
  pub shown : (x : Result Shown ℕ) → (shown_by x).refused ≡ number_in x
  -- each number of the screen line is handed on as it is, its word by the code
  pub shown_are : (n : Shown)
      → let s = shown_by (Ok n) in
      (s.ended ≡ n.ended) × (s.count ≡ n.count) × (s.fault ≡ n.fault) × (s.on ≡ n.on) × (s.bytes ≡ n.bytes) × (s.doubtful ≡ n.doubtful)
      × (s.verdict ≡ verdict_code (to_verdict n.verdict))
  -- where the line is refused, all of them are 0
  pub not_shown : (k : ℕ) → shown_by (Err k) ≡ record { ended = 0; count = 0; fault = 0; on = 0; bytes = 0; doubtful = 0; verdict = 0; refused = k }
  -- receive: the bytes taken, none where it is refused; the transfer and the word are those of what it leaves
  pub received : (n : ℕ) (w : World) → received_by (took n, w) ≡ record { transfer = w.t; taken = n; verdict = verdict_code (verdict_of w); refused = 0 }
  pub not_received : (k : ℕ) (w : World) → received_by (refused k, w) ≡ record { transfer = w.t; taken = 0; verdict = verdict_code (verdict_of w); refused = k }
  -- the codes of the words, no two alike
  pub words : map verdict_code (guess ∷ result ∷ broken ∷ suspect ∷ []) ≡ 0 ∷ 1 ∷ 2 ∷ 3 ∷ []
  pub list : (x : Result ℕ ℕ) → (host_port_count_of x).refused ≡ number_in x
  -- a console and a verdict that were handed out mean the same when they are handed back
  pub console_back : (s : Console) → console_meant (numbers_of s) ≡ s
  pub verdict_back : (v : Verdict) → verdict_meant (verdict_code (to_verdict v)) ≡ v
  -- the numbers of a console, no two alike; all 0 is the beginning
  pub endpoints : map endpoint_code (None ∷ Listening ∷ Connecting ∷ []) ≡ 0 ∷ 1 ∷ 2 ∷ []
  pub yes_and_no : map one_if (false ∷ true ∷ []) ≡ 0 ∷ 1 ∷ []
  pub begins : console_meant (record { extended = 0; endpoint = 0; running = 0 }) ≡ beginning
  -- what every number means: any but 0 is yes; one that no endpoint has says none, and one that no word has says GUESS
  pub yes_meant : (n : ConsoleNumbers) → (0 < n.extended → (console_meant n).extended ≡ true) × (0 < n.running → (console_meant n).running ≡ true)
  pub endpoint_meant_is : (n : ℕ) → (endpoint_meant n ≡ None) ⊎ (n ≡ endpoint_code (endpoint_meant n))
  pub verdict_meant_is : (n : ℕ) → (verdict_meant n ≡ Guess) ⊎ (n ≡ verdict_code (to_verdict (verdict_meant n)))
  -- an answer's code is handed on as it is, none as 0, and the word as 1
  pub answered : (a : Answer) → ((answered_by a).code ≡ code_in a.code) × ((answered_by a).suspect ≡ one_if a.suspect) × ((answered_by a).console ≡ numbers_of a.console)
