-- Replay of a night (document 02, Item 4): from the bytes of a recording to the printed bytes.
use Rattle.std.specs.Prelude.{ℕ, suc, ◌*◌, List, ◌++◌, length, replicate}
use Rattle.transfer.specs.Transfer.{World}
use Rattle.transfer.specs.Receive.{Answer, receive_of}
use Rattle.transfer.specs.Calls.{started_world}
use Rattle.screen.specs.Screen.{line_of}
use Rattle.nights.specs.Request.{Request, starts, piece, malformed, request_of}
use Rattle.nights.specs.Lines.{piece_text}
use Rattle.nights.specs.Reading.{Turn, prints, stops, Reading, Reader, read, end_text}

-- no start has come, or the transfer of the last one, with its file and ledgers
pub data Running : Type 0 where
  none : Running
  transferring : World → Running

-- a night (document 02's word) as far as its recording is read
pub record Night : Type 0 where
  -- of the next record, the first being 0
  pub number : ℕ
  pub running : Running

-- a start takes the place of the transfer: F zero bytes, and ledgers of R pairs
unfoldable pub started_night : ℕ → ℕ → World
started_night F R = started_world (replicate F 0) (replicate (2 * R) 0) (replicate (2 * R) 0)

-- a text, and the next record meets this world
unfoldable pub leads : ℕ → List ℕ → World → Turn Night
leads k text w = prints text (record { number = suc k; running = transferring w })

-- a piece of n bytes, by what its call answered and left
unfoldable pub answer_piece : ℕ → ℕ → Answer × World → Turn Night
answer_piece k n a = leads k (piece_text a.0 a.1 n) a.1

-- what the record of this number asks for: a start prints the screen line, and takes the place of any transfer
unfoldable pub turn_of : ℕ → Running → Request → Turn Night
turn_of k s (starts F R) = leads k (line_of (started_night F R)) (started_night F R)
turn_of k (transferring w) (piece c bytes) = answer_piece k (length bytes) (receive_of w c bytes)
turn_of k none (piece c bytes) = stops
turn_of k s malformed = stops

abbrev pub night : Reader Night
night = record { turn = λ s bytes. turn_of s.number s.running (request_of bytes); number = λ s. s.number }

-- before the first record
abbrev pub before_first : Night
before_first = record { number = 0; running = none }

-- what these bytes lead to
abbrev pub after : List ℕ → Reading Night
after bytes = read night before_first bytes

-- ---- the printed lines

-- of the records that are whole so far
unfoldable pub so_far : List ℕ → List ℕ
so_far bytes = (after bytes).text

-- of a recording, at its end
unfoldable pub printed : List ℕ → List ℕ
printed bytes = so_far bytes ++ end_text night (after bytes)
