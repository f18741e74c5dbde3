-- Document 02's table of the console (Item 9), as definitions: which row an event falls under, and what the row answers. `Table` says the rows'
-- conditions in terms of the texts.
use Rattle.std.specs.Prelude.{ℕ, Bool, true, false, cond, ◌&&◌, ◌||◌, List, [], ◌∷◌, ltb, eqb}
use Rattle.answers.specs.Refusal.{number_in}
use Rattle.commands.specs.Line.{read_of, argument_of, verb}
use Rattle.hostlists.specs.HostList.{host_count}
use Rattle.rangelists.specs.RangeText.{has_malformed}
use Rattle.verdicts.specs.declared.verdict.Verdict.{Verdict}
use Rattle.verdicts.specs.declared.verdict.Verdict.TheVariants.{Guess, Result, Suspect, Broken}
use Rattle.console.specs.declared.state.Console.{Console}
use Rattle.console.specs.declared.state.Endpoint.{Endpoint}
use Rattle.console.specs.declared.state.Endpoint.TheVariants.{None, Listening, Connecting}
use Rattle.console.specs.declared.state.Answer.{Answer}
use Rattle.console.specs.Console.{Event, line, ending, asked, at_endpoint, started, ended, gets, gets_with_suspect, silent}

-- ---- the verbs by their places in document 01's list

abbrev pub MODE : ℕ
MODE = 1

abbrev pub PASV : ℕ
PASV = 2

abbrev pub PORT : ℕ
PORT = 3

abbrev pub REST : ℕ
REST = 4

abbrev pub RETR : ℕ
RETR = 5

abbrev pub STOR : ℕ
STOR = 6

abbrev pub SPAS : ℕ
SPAS = 7

abbrev pub SPOR : ℕ
SPOR = 8

abbrev pub ERET : ℕ
ERET = 9

abbrev pub ESTO : ℕ
ESTO = 10

abbrev pub SBUF : ℕ
SBUF = 11

abbrev pub OPTS : ℕ
OPTS = 12

-- ---- the rows, and what each answers

pub data Row : Type 0 where
  -- MODE with E, and with anything else
  mode_e : Row
  mode_other : Row
  -- SPAS and SPOR before MODE E
  too_early : Row
  -- the endpoint, and a text that gives none
  pasv : Row
  spas : Row
  port : Row
  port_refused : Row
  spor : Row
  spor_refused : Row
  -- STOR and ESTO, RETR and ERET, ready or not
  stor : Row
  stor_refused : Row
  retr : Row
  retr_refused : Row
  -- REST, SBUF and OPTS
  rest : Row
  rest_refused : Row
  sbuf_opts : Row
  -- a line refused with 31 to 34, and with 35
  line_refused : Row
  argument_refused : Row
  -- a command while a transfer runs
  while_running : Row
  -- the end of the transfer: its last words, and those ends that do nothing
  end_result : Row
  end_suspect : Row
  end_broken : Row
  end_guess : Row
  end_of_none : Row

abbrev pub outcome : Row → Console → Answer
outcome mode_e s = gets (asked s) 200
outcome mode_other s = gets s 504
outcome too_early s = gets s 503
outcome pasv s = gets (at_endpoint s Listening) 227
outcome spas s = gets (at_endpoint s Listening) 229
outcome port s = gets (at_endpoint s Connecting) 200
outcome port_refused s = gets s 501
outcome spor s = gets (at_endpoint s Connecting) 200
outcome spor_refused s = gets s 501
outcome stor s = gets (started s) 150
outcome stor_refused s = gets s 503
outcome retr s = gets (started s) 150
outcome retr_refused s = gets s 503
outcome rest s = gets s 350
outcome rest_refused s = gets s 501
outcome sbuf_opts s = gets s 200
outcome line_refused s = gets s 500
outcome argument_refused s = gets s 501
outcome while_running s = gets s 503
outcome end_result s = gets (ended s) 226
outcome end_suspect s = gets_with_suspect (ended s) 226
outcome end_broken s = gets (ended s) 426
outcome end_guess s = silent s
outcome end_of_none s = silent s

-- ---- which row

abbrev pub is_listening : Endpoint → Bool
is_listening None = false
is_listening Listening = true
is_listening Connecting = false

abbrev pub is_connecting : Endpoint → Bool
is_connecting None = false
is_connecting Listening = false
is_connecting Connecting = true

-- the text is E or e, and nothing more
abbrev pub is_e : List ℕ → Bool
is_e [] = false
is_e (b ∷ []) = eqb b 69 || eqb b 101
is_e (b ∷ c ∷ bs) = false

abbrev pub mode_row : List ℕ → Row
mode_row text = cond (is_e text) mode_e mode_other

abbrev pub spas_row : Console → Row
spas_row s = cond s.extended spas too_early

abbrev pub port_row : List ℕ → Row
port_row text = cond (eqb (host_count text) 1) port port_refused

abbrev pub spor_row : Console → List ℕ → Row
spor_row s text = cond s.extended (cond (ltb 0 (host_count text)) spor spor_refused) too_early

abbrev pub stor_row : Console → Row
stor_row s = cond (s.extended && is_listening s.endpoint) stor stor_refused

abbrev pub retr_row : Console → Row
retr_row s = cond (s.extended && is_connecting s.endpoint) retr retr_refused

abbrev pub rest_row : List ℕ → Row
rest_row text = cond (has_malformed text) rest_refused rest

-- a command with this verb and this argument, where no transfer runs
abbrev pub command_row : Console → ℕ → List ℕ → Row
command_row s v text =
    cond (eqb v MODE) (mode_row text)
    (cond (eqb v PASV) pasv
    (cond (eqb v SPAS) (spas_row s)
    (cond (eqb v PORT) (port_row text)
    (cond (eqb v SPOR) (spor_row s text)
    (cond (eqb v STOR || eqb v ESTO) (stor_row s)
    (cond (eqb v RETR || eqb v ERET) (retr_row s)
    (cond (eqb v REST) (rest_row text) sbuf_opts)))))))

abbrev pub refused_row : ℕ → Row
refused_row k = cond (eqb k 35) argument_refused line_refused

-- a line that is refused; then any command while a transfer runs; then the commands
abbrev pub line_row : Console → List ℕ → Row
line_row s l =
    cond (ltb 0 (number_in (read_of l))) (refused_row (number_in (read_of l)))
    (cond s.running while_running (command_row s (verb (read_of l)) (argument_of (read_of l) l)))

abbrev pub end_row : Verdict → Row
end_row Guess = end_guess
end_row Result = end_result
end_row Suspect = end_suspect
end_row Broken = end_broken

unfoldable pub row_of : Console → Event → Row
row_of s (line l) = line_row s l
row_of s (ending v) = cond s.running (end_row v) end_of_none

-- what the console answers to a line and to an ending, in any state
abbrev pub answer_to : Console → Event → Answer
answer_to s e = outcome (row_of s e) s
