-- What the library keeps between chunks of a recording, and what a chunk and the end of the input lead to.
use Rattle.std.specs.Prelude.{ℕ, suc, ◌+◌, ◌*◌, ◌-◌, ◌≡◌, Bool, true, false, cond, ◌&&◌, not, List, [], ◌++◌, ltb, length, take, drop, replicate}
use Rattle.frames.specs.Frame.{field_length, first_record}
use Rattle.frames.specs.declared.frame.First.TheVariants.{Nothing, Cut, TooLong, Whole}
use Rattle.answers.specs.Written.{room_refusal}
use Rattle.ledger.specs.Ledger.{largest}
use Rattle.transfer.specs.Transfer.{World, world, fresh}
use Rattle.transfer.specs.Receive.{Answer, receive_of}
use Rattle.screen.specs.Screen.{line_of}
use Rattle.recordings.specs.declared.session.Progress.{Progress}
use Rattle.recordings.specs.declared.session.Session.{Session}
use Rattle.nights.specs.Request.{Request, starts, piece, malformed, record_limit, request_of}
use Rattle.nights.specs.Lines.{record_line, piece_text}
use Rattle.nights.specs.Reading.{Turn, prints, stops, Reading, Reader, read}
use Rattle.nights.specs.Night.{started_night}

-- ---- lent bytes and entries whose front is in use

abbrev pub put_front : List ℕ → List ℕ → List ℕ
put_front new old = new ++ drop (length new) old

-- a text at the front of lent bytes, which stay as they were after it; n is its length
abbrev pub WritesFront : List ℕ → List ℕ → ℕ → List ℕ → Type 0
WritesFront text out n after = (n ≡ length text) × (after ≡ put_front text out)

-- what the records so far have led to, with the lent file and ledgers
pub record ReplayState : Type 0 where
  pub progress : Progress
  pub file : List ℕ
  pub claimed : List ℕ
  pub doubtful : List ℕ

abbrev pub replay_state : Progress → List ℕ → List ℕ → List ℕ → ReplayState
replay_state p file claimed doubtful = record { progress = p; file = file; claimed = claimed; doubtful = doubtful }

-- the transfer, and as much of file and ledgers as it is for
abbrev pub world_in : ReplayState → World
world_in d =
    let t = d.progress.receiver.transfer in
    world t (take t.len d.file) (take (2 * t.pairs) d.claimed) (take (2 * t.pairs) d.doubtful)

-- ---- a record

-- the largest number has none after it: a night of 2^64 records is beyond what is counted
unfoldable pub next_number : ℕ → ℕ
next_number k = cond (ltb k largest) (suc k) k

-- after a record that is not malformed: this world at the front of what is lent, and the next number
unfoldable pub put_world : ReplayState → World → ReplayState
put_world d w =
    replay_state
    (record { receiver = record { transfer = w.t }; number = next_number d.progress.number; started = true })
    (put_front w.lent.file d.file)
    (put_front w.lent.claimed d.claimed)
    (put_front w.lent.doubtful d.doubtful)

-- a piece of n bytes, by what its call answered and left
unfoldable pub library_answer : ReplayState → ℕ → Answer × World → Turn ReplayState
library_answer d n a = prints (piece_text a.0 a.1 n) (put_world d a.1)

-- a start takes the place of the transfer; a piece before any start is malformed
unfoldable pub library_turn : ReplayState → Request → Turn ReplayState
library_turn d (starts F R) = prints (line_of (started_night F R)) (put_world d (started_night F R))
library_turn d (piece c bytes) = cond d.progress.started (library_answer d (length bytes) (receive_of (world_in d) c bytes)) stops
library_turn d malformed = stops

-- the reader that the code is proved to be
abbrev pub library : Reader ReplayState
library = record { turn = λ d bytes. library_turn d (request_of bytes); number = λ d. d.progress.number }

-- ---- a chunk

-- nothing has been read; the transfer is one of no bytes, which no record meets
abbrev pub first_session : Session
first_session = record { progress = record { receiver = record { transfer = fresh 0 0 }; number = 0; started = false }; held = 0; stopped = false }

-- the session, with all that is lent beside it
pub record Kept : Type 0 where
  pub session : Session
  pub held : List ℕ
  pub file : List ℕ
  pub claimed : List ℕ
  pub doubtful : List ℕ

abbrev pub kept : Session → List ℕ → List ℕ → List ℕ → List ℕ → Kept
kept s held file claimed doubtful = record { session = s; held = held; file = file; claimed = claimed; doubtful = doubtful }

abbrev pub replay_state_of : Kept → ReplayState
replay_state_of k = replay_state k.session.progress k.file k.claimed k.doubtful

-- as much as the longest record that can be well-formed has, with its length field
abbrev pub held_limit : ℕ
held_limit = field_length + record_limit

-- the bytes of a record that is not whole
unfoldable pub unfinished : Kept → List ℕ
unfinished k = take k.session.held k.held

-- bytes that are none, or the beginning of one record that is not whole
unfoldable pub is_unfinished : List ℕ → Bool
is_unfinished bytes = elim (first_record record_limit bytes) [ Nothing ↦ true | Cut ↦ true | TooLong ↦ false | Whole n ↦ false ]

-- what a reading leaves: what is not whole at the front of the held bytes, and zeros after it
unfoldable pub leaves : Reading ReplayState → Kept
leaves r =
    kept
    (record { progress = r.left.progress; held = length r.rest; stopped = r.stopped })
    (r.rest ++ replicate (held_limit - length r.rest) 0)
    r.left.file
    r.left.claimed
    r.left.doubtful

-- a chunk is read behind what is held: its text, and what is kept then; after a malformed record nothing is read, and nothing changes
unfoldable pub feed : Kept → List ℕ → List ℕ × Kept
feed k chunk =
    let r = read library (replay_state_of k) (unfinished k ++ chunk) in
    cond k.session.stopped ([], k) (r.text, leaves r)

-- the lent bytes that are enough for what a chunk of n bytes prints: no record prints more than 96, and all have six bytes of the chunk or more but
-- the first, of which bytes may be held, and the last, which may be malformed
abbrev pub feed_room : ℕ → ℕ
feed_room n = 192 + 16 * n

-- 1: the held bytes are not the beginning of one record that is not whole; 55: the lent bytes are too few; 0 where the chunk is taken
unfoldable pub feed_refusal : Kept → List ℕ → List ℕ → ℕ
feed_refusal k chunk out = cond (is_unfinished (unfinished k)) (room_refusal (feed_room (length chunk)) out) 1

-- what it prints, and what is kept after it: a refusal changes nothing
unfoldable pub feed_text : Kept → List ℕ → List ℕ
feed_text k chunk = (feed k chunk).0

unfoldable pub feed_after : Kept → List ℕ → List ℕ → Kept
feed_after k chunk out = cond (ltb 0 (feed_refusal k chunk out)) k (feed k chunk).1

-- ---- the end of the input

-- a record that is not whole is malformed
unfoldable pub finish_text : Session → List ℕ
finish_text s = cond (ltb 0 s.held && not s.stopped) (record_line s.progress.number) []
