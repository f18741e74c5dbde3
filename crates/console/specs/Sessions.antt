-- The console keeps to the table, over any sequence of lines and endings.
use Rattle.std.specs.Prelude.{ℕ, ◌-◌, ◌%◌, ◌≤◌, ◌≡◌, ◌⊎◌, ◌≢◌, true, false, cond, Some, Ok, Err, List, [], ◌∷◌, ◌++◌, map, eqb, length, get_or}
use Rattle.commands.specs.Line.{verbs}
use Rattle.commands.specs.Refused.{RefusedBy}
use Rattle.commands.specs.VerbNames.{bytes}
use Rattle.rangelists.specs.RangeText.{has_malformed, range_count, read_ranges}
use Rattle.verdicts.specs.declared.verdict.Verdict.{Verdict}
use Rattle.console.specs.declared.state.Console.{Console}
use Rattle.console.specs.declared.state.Endpoint.TheVariants.{None}
use Rattle.console.specs.declared.state.Answer.{Answer}
use Rattle.console.specs.Console.{Event, line, ending, beginning, code_in}
use Rattle.console.specs.Rows.{MODE, PASV, PORT, REST, RETR, STOR, SPAS, SPOR, ERET, ESTO, SBUF, OPTS, Row, row_of, answer_to}
use Rattle.console.specs.Table.{Asks, answer, Table}

-- the event falls under this row and gets this answer
abbrev pub Answered : Console → Event → Row → Answer → Type 0
Answered s e r a = (row_of s e ≡ r) × (answer_to s e ≡ a)

-- ---- sequences of events, each asked of the console that the one before left

-- their answers
unfoldable pub answers_from : (Console → Event → Answer) → Console → List Event → List Answer
answers_from respond s [] = []
answers_from respond s (e ∷ es) = respond s e ∷ answers_from respond (respond s e).console es

-- the console after them
unfoldable pub after : Console → List Event → Console
after s [] = s
after s (e ∷ es) = after (answer_to s e).console es

-- some sequence from the beginning comes to the state
pub record Reached (s : Console) : Type 0 where
  pub events : List Event
  pub comes_to : after beginning events ≡ s

-- some sequence from the beginning has the row for its next event
pub record Met (r : Row) : Type 0 where
  pub events : List Event
  pub next : Event
  pub has_row : row_of (after beginning events) next ≡ r

-- eight of the 12 states: the six in which nothing runs, and the two in which a transfer runs with mode E and an endpoint
abbrev pub Possible : Console → Type 0
Possible s = (s.running ≡ false) ⊎ ((s.extended ≡ true) × (s.endpoint ≢ None))

-- the codes by which a command is refused
abbrev pub IsRefusal : ℕ → Type 0
IsRefusal code = (code ≡ 500) ⊎ ((code ≡ 501) ⊎ ((code ≡ 503) ⊎ (code ≡ 504)))

-- what the longest argument has room for
pub record ArgumentRanges : Type 0 where
  pub at_most_510 : (text : List ℕ) → length text ≤ 2041 → range_count text ≤ 510

pub record Sessions : Type 1 where
  -- the console answers by each sentence of the table
  pub table : Table Answered
  -- every line and every ending falls under a sentence, in every state. So whatever is shown of each sentence's answer holds of every answer of
  -- the console.
  pub line_is : (Answers : Console → Event → Row → Answer → Type 0) → Table Answers → (s : Console) (l : List ℕ)
      → Answers s (line l) (row_of s (line l)) (answer_to s (line l))
  pub end_is : (Answers : Console → Event → Row → Answer → Type 0) → Table Answers → (s : Console) (v : Verdict)
      → Answers s (ending v) (row_of s (ending v)) (answer_to s (ending v))
  -- over any sequence, from the beginning and from any other state, whoever keeps to the table answers the same
  pub runs : (respond : Console → Event → Answer) → Table (λ s e r a. respond s e ≡ a) → (s : Console) (events : List Event)
      → answers_from respond s events ≡ answers_from answer_to s events
  -- the first answer is that of the first event, and each later event is asked of the console that those before it left
  pub one_event : (s : Console) (e : Event) → answers_from answer_to s (e ∷ []) ≡ answer_to s e ∷ []
  pub in_turn : (s : Console) (es fs : List Event) → answers_from answer_to s (es ++ fs) ≡ answers_from answer_to s es ++ answers_from answer_to (after s es) fs
  -- a refused command changes nothing, and there is no word with its code
  pub changes_nothing : (s : Console) (l : List ℕ) → 500 ≤ code_in (answer_to s (line l)).code → answer_to s (line l) ≡ answer s (answer_to s (line l)).code false
  -- which codes these are
  pub refused_with : (s : Console) (l : List ℕ) → 500 ≤ code_in (answer_to s (line l)).code → IsRefusal (code_in (answer_to s (line l)).code)
  -- a line that is refused gets its code in every state, also while a transfer runs
  pub judged_first : (s : Console) (l : List ℕ) (k : ℕ) → RefusedBy l k → answer_to s (line l) ≡ answer s (Some (cond (eqb k 35) 501 500)) false
  -- mode E stays asked for
  pub mode_e_stays : (s : Console) (events : List Event) → s.extended ≡ true → (after s events).extended ≡ true
  -- an argument has at most 510 ranges. Into a pair for each the reader answers 51 where REST gets 501, and 0 where it gets 350
  pub ranges_are : ArgumentRanges
  pub rest_is_51 : (s : Console) (l text ledger : List ℕ) → Asks s l REST text → length ledger % 2 ≡ 0 → length ledger ≤ 8192 → 1020 ≤ length ledger
      → (read_ranges text ledger ≡ cond (has_malformed text) (Err 51) (Ok tt)) × (answer_to s (line l) ≡ answer s (Some (cond (has_malformed text) 501 350)) false)
  -- the states that sequences from the beginning reach, and no others
  pub reached : (s : Console) → Possible s → Reached s
  pub reached_only : (s : Console) → Reached s → Possible s
  -- every row is met
  pub met : (r : Row) → Met r
  -- the numbers that stand for the verbs
  pub verbs_are : map (λ v. get_or verbs (v - 1) []) (MODE ∷ PASV ∷ PORT ∷ REST ∷ RETR ∷ STOR ∷ SPAS ∷ SPOR ∷ ERET ∷ ESTO ∷ SBUF ∷ OPTS ∷ [])
      ≡ map bytes ("MODE" ∷ "PASV" ∷ "PORT" ∷ "REST" ∷ "RETR" ∷ "STOR" ∷ "SPAS" ∷ "SPOR" ∷ "ERET" ∷ "ESTO" ∷ "SBUF" ∷ "OPTS" ∷ [])
