-- A session of the console (document 02, Item 9), line by line, with the code that each line and each ending gets.
use Rattle.std.specs.Prelude.{ℕ, ◌≡◌, Bool, true, false, List, [], ◌∷◌, ◌++◌, map}
use Prim.Native.String.{String}
use Rattle.commands.specs.VerbNames.{bytes}
use Rattle.verdicts.specs.declared.verdict.Verdict.TheVariants.{Guess, Result, Suspect, Broken}
use Rattle.console.specs.Console.{Event, line, ending, beginning, code_in}
use Rattle.console.specs.Rows.{answer_to}
use Rattle.console.specs.Sessions.{answers_from}

-- an event, its code, and whether the word SUSPECT goes with it
pub data Step : Type 0 where
  gets : Event → ℕ → Bool → Step

abbrev pub event : Step → Event
event (gets e c w) = e

abbrev pub code : Step → ℕ
code (gets e c w) = c

abbrev pub word : Step → Bool
word (gets e c w) = w

-- the text with CR LF
abbrev pub said : String → ℕ → Step
said text c = gets (line (bytes text ++ (13 ∷ 10 ∷ []))) c false

abbrev pub steps : List Step
steps =
    -- before MODE E
    said "SPAS" 503
    ∷ said "SPOR x" 503
    ∷ said "STOR a" 503
    ∷ said "MODE S" 504
    ∷ said "MODE E " 504
    ∷ said "mode  e" 200
    -- a transfer that is received
    ∷ said "SPOR x" 501
    ∷ said "PASV" 227
    ∷ said "RETR a" 503
    ∷ said "REST 0-9,x" 501
    ∷ said "REST 5-9,0-4" 350
    ∷ said "STOR a" 150
    ∷ said "PASV" 503
    ∷ said "PASV x" 501
    ∷ said "QUIT" 500
    ∷ gets (ending Guess) 0 false
    ∷ gets (ending Suspect) 226 true
    ∷ gets (ending Result) 0 false
    ∷ said "STOR a" 503
    -- one that is sent
    ∷ said "PORT 1,2,3,4,05,6" 501
    ∷ said "PORT 1,2,3,4,0,0" 501
    ∷ said "PORT 1,2,3,4,0,1 1,2,3,4,0,2" 501
    ∷ said "PORT 1,2,3,4,0,1" 200
    ∷ said "ESTO a" 503
    ∷ said "ERET a" 150
    ∷ gets (ending Broken) 426 false
    -- and one more received
    ∷ said "SPOR 1,2,3,4,0,1 1,2,3,4,0,2" 200
    ∷ said "SPAS" 229
    ∷ said "SBUF 65536" 200
    ∷ said "OPTS x" 200
    ∷ said "ESTO a" 150
    ∷ gets (ending Result) 226 false
    ∷ []

pub record ConsoleSession : Type 0 where
  pub codes : map (λ a. code_in a.code) (answers_from answer_to beginning (map event steps)) ≡ map code steps
  pub words : map (λ a. a.suspect) (answers_from answer_to beginning (map event steps)) ≡ map word steps
