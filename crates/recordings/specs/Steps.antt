-- What the parts of the code answer and leave, in the words of Reading and Kept: a record, the first record of some bytes, and one step through a chunk.
use Rattle.std.specs.Prelude.{ℕ, ◌≤◌, ◌<◌, ◌≡◌, true, false, cond, ◌⊎◌, Option, Some, None, List, [], ◌++◌, length, drop}
use Rattle.frames.specs.Frame.{record_length}
use Rattle.recordings.specs.declared.session.Progress.{Progress}
use Rattle.recordings.specs.declared.session.Session.{Session}
use Rattle.recordings.specs.declared.turn.Turned.{Turned}
use Rattle.recordings.specs.declared.first.Looked.{Looked}
use Rattle.recordings.specs.declared.first.Looked.TheVariants.{Malformed, Unfinished, Answered}
use Rattle.nights.specs.Lines.{record_line}
use Rattle.nights.specs.Reading.{Turn, prints, stops, Reading, stops_at, printed_before, read}
use Rattle.recordings.specs.Kept.{WritesFront, ReplayState, replay_state, Kept, replay_state_of, held_limit, unfinished, is_unfinished, library}

-- no record prints more bytes
abbrev pub text_limit : ℕ
text_limit = 96

-- a text of no more than that at the front of lent bytes
abbrev pub WritesText : List ℕ → List ℕ → ℕ → List ℕ → Type 0
WritesText text out n after = (length text ≤ text_limit) × WritesFront text out n after

-- ---- a record

-- a turn from the state d, as the code leaves it: what it answers, nothing where the record is malformed, the file and ledgers, and the lent bytes
abbrev pub Leads : Turn ReplayState → ReplayState → List ℕ → Option Turned → List ℕ → List ℕ → List ℕ → List ℕ → Type 0
Leads (prints text v) d out (Some t) file claimed doubtful after =
    (replay_state t.progress file claimed doubtful ≡ v) × WritesText text out t.written after
Leads (prints text v) d out None file claimed doubtful after = ⊥
Leads stops d out (Some t) file claimed doubtful after = ⊥
Leads stops d out None file claimed doubtful after = (replay_state d.progress file claimed doubtful ≡ d) × (after ≡ out)

-- ---- the first record of some bytes

-- whatever follows them: malformed; not whole, where none of them are used; or answered
abbrev pub Looks : Looked → ReplayState → List ℕ → List ℕ → List ℕ → List ℕ → List ℕ → List ℕ → Type 0
Looks (Malformed n) d bytes out file claimed doubtful after =
    (replay_state d.progress file claimed doubtful ≡ d) × WritesText (record_line (library.number d)) out n after × ((more : List ℕ) → read library d (bytes ++ more) ≡ stops_at library d)
Looks Unfinished d bytes out file claimed doubtful after = (is_unfinished bytes ≡ true) × (replay_state d.progress file claimed doubtful ≡ d) × (after ≡ out)
Looks (Answered p used n) d bytes out file claimed doubtful after =
    (text : List ℕ) × (6 ≤ used) × (used ≤ length bytes) × (used ≡ record_length bytes) × WritesText text out n after
    × ((more : List ℕ) → read library d (bytes ++ more) ≡ printed_before text (read library (replay_state p file claimed doubtful) (drop used bytes ++ more)))

-- ---- a step through a chunk

abbrev pub halted : ReplayState → Reading ReplayState
halted d = record { text = []; left = d; stopped = true; rest = [] }

-- what is still to come of what is kept and the bytes after it
unfoldable pub go_on : Kept → List ℕ → Reading ReplayState
go_on k bytes = cond k.session.stopped (halted (replay_state_of k)) (read library (replay_state_of k) (unfinished k ++ bytes))

-- the session after a look: a record that is not whole is held
abbrev pub after_look : Progress → Looked → ℕ → Session
after_look p (Malformed n) waiting = record { progress = p; held = 0; stopped = true }
after_look p Unfinished waiting = record { progress = p; held = waiting; stopped = false }
after_look p (Answered q used n) waiting = record { progress = q; held = 0; stopped = false }

-- how many bytes it wrote
abbrev pub written_in : Looked → ℕ
written_in (Malformed n) = n
written_in Unfinished = 0
written_in (Answered p used n) = n

-- the held bytes are none, or the beginning of one record that is not whole, and what is lent has its length
pub record Holds (k : Kept) : Type 0 where
  pub ours : is_unfinished (unfinished k) ≡ true
  pub below : k.session.held < held_limit
  pub halts : k.session.stopped ≡ true → k.session.held ≡ 0
  pub held : length k.held ≡ held_limit
  pub file : length k.file ≡ 32768
  pub claimed : length k.claimed ≡ 512
  pub doubtful : length k.doubtful ≡ 512

-- from k to m some of the bytes were taken, and n written
pub record Steps (k m : Kept) (bytes out : List ℕ) (taken n : ℕ) (after : List ℕ) : Type 0 where
  pub text : List ℕ
  pub writes : WritesText text out n after
  pub some : 0 < taken
  pub within : taken ≤ length bytes
  pub reading : go_on k bytes ≡ printed_before text (go_on m (drop taken bytes))
  pub holds : Holds m
  -- what was held is finished before anything is written, and a record that was not held has six bytes or more
  pub printed_held : 0 < m.session.held → n ≡ 0
  pub printed_many : k.session.held ≡ 0 → m.session.stopped ≡ false → (6 ≤ taken) ⊎ ((n ≡ 0) × (taken ≡ length bytes))

-- from k to m all of the bytes were read, and n written
pub record Reads (k m : Kept) (bytes out : List ℕ) (n : ℕ) (after : List ℕ) : Type 0 where
  pub text : List ℕ
  pub writes : WritesFront text out n after
  pub reading : go_on k bytes ≡ printed_before text (go_on m [])
  pub holds : Holds m
