-- Replay of a night (document 02, Item 4): a field for each sentence of it.
use Rattle.std.specs.Prelude.{ℕ, suc, ◌+◌, ◌*◌, ◌-◌, ◌≤◌, ◌<◌, ◌≡◌, ◌⊎◌, ◌≢◌, false, List, [], ◌∷◌, ◌++◌, length, drop, replicate}
use Rattle.octets.specs.Digits.{AllBelow, to_little_endian}
use Rattle.octets.specs.Decimal.{decimal}
use Rattle.frames.specs.Frame.{length_field, kind_of, framed}
use Rattle.transfer.specs.Transfer.{World, fresh, start_refusal}
use Rattle.transfer.specs.Receive.{refused, took, receive_of}
use Rattle.screen.specs.Screen.{line_of, screen_refusal}
use Rattle.nights.specs.Request.{file_length_in, pairs_in}
use Rattle.nights.specs.Lines.{record_line, left_word, refused_word, number_line}
use Rattle.nights.specs.Night.{Running, none, transferring, started_night, after, so_far, printed}

-- ---- the two kinds of record, written

abbrev pub start_record : ℕ → ℕ → List ℕ
start_record F R = framed 16 (to_little_endian 256 8 F ++ to_little_endian 256 8 R)

abbrev pub piece_record : ℕ → List ℕ → List ℕ
piece_record c piece = framed 17 (c ∷ piece)

-- ---- what bytes have led to

abbrev pub running_after : List ℕ → Running
running_after bytes = (after bytes).left.running

abbrev pub number_after : List ℕ → ℕ
number_after bytes = (after bytes).left.number

-- all their records are whole, and none is malformed
abbrev pub Open : List ℕ → Type 0
Open bytes = ((after bytes).stopped ≡ false) × ((after bytes).rest ≡ [])

-- behind these bytes the record prints the text, and the next one, whose number is one more, meets the world w
pub record Prints (bytes r text : List ℕ) (w : World) : Type 0 where
  pub goes_on : Open (bytes ++ r)
  pub text_is : so_far (bytes ++ r) ≡ so_far bytes ++ text
  pub number_is : number_after (bytes ++ r) ≡ suc (number_after bytes)
  pub running_is : running_after (bytes ++ r) ≡ transferring w

-- ---- malformed records

-- as many bytes as the length field says follow it
pub record IsWhole (r : List ℕ) : Type 0 where
  pub field : 4 ≤ length r
  pub counted : length r ≡ 4 + length_field r

abbrev pub IsKind : ℕ → List ℕ → Type 0
IsKind kind r = IsWhole r × (6 ≤ length r) × (kind_of r ≡ kind)

pub data Malformed : Running → List ℕ → Type 0 where
  -- a length below that of a kind
  no_kind : (s : Running) (r : List ℕ) → IsWhole r → length_field r < 2 → Malformed s r
  -- another kind
  other_kind : (s : Running) (r : List ℕ) → IsWhole r → 6 ≤ length r → kind_of r ≢ 16 → kind_of r ≢ 17 → Malformed s r
  -- a wrong body length
  start_length_is : (s : Running) (r : List ℕ) → IsKind 16 r → length (drop 6 r) ≢ 16 → Malformed s r
  no_channel : (s : Running) (r : List ℕ) → IsKind 17 r → length (drop 6 r) ≡ 0 → Malformed s r
  -- a start above 32,768 file bytes or 256 pairs
  long_file : (s : Running) (r : List ℕ) → IsKind 16 r → length (drop 6 r) ≡ 16 → 32768 < file_length_in (drop 6 r) → Malformed s r
  many_pairs : (s : Running) (r : List ℕ) → IsKind 16 r → length (drop 6 r) ≡ 16 → 256 < pairs_in (drop 6 r) → Malformed s r
  -- a piece above 16,384 bytes; a length that only such a record could have, as soon as its length field is there
  long_piece : (s : Running) (r : List ℕ) → IsKind 17 r → 1 + 16384 < length (drop 6 r) → Malformed s r
  too_long : (s : Running) (r : List ℕ) → 4 ≤ length r → 16387 < length_field r → Malformed s r
  -- a piece before any start
  before_start : (r : List ℕ) → IsKind 17 r → Malformed none r

-- a cut record: 1 to 3 bytes, or fewer than the length says, where that is not too long
pub data IsCut : List ℕ → Type 0 where
  cut_field : (r : List ℕ) → 0 < length r → length r < 4 → IsCut r
  cut_record : (r : List ℕ) → 4 ≤ length r → length_field r ≤ 16387 → length r < 4 + length_field r → IsCut r

-- a start's file bytes and pairs, and a piece on a channel, that are not too many
abbrev pub StartWithin : ℕ → ℕ → Type 0
StartWithin F R = (F ≤ 32768) × (R ≤ 256)

abbrev pub PieceWithin : ℕ → List ℕ → Type 0
PieceWithin c piece = (c < 256) × (length piece ≤ 16384)

-- a record that is not malformed: a start, or a piece after a start
pub data WellFormed : Running → List ℕ → Type 0 where
  is_start : (s : Running) (F R : ℕ) → StartWithin F R → WellFormed s (start_record F R)
  is_piece : (w : World) (c : ℕ) (piece : List ℕ) → PieceWithin c piece → WellFormed (transferring w) (piece_record c piece)

pub record Replay : Type 0 where
  -- the first record's number is 0, and an empty recording prints nothing
  pub first : (number_after [] ≡ 0) × (running_after [] ≡ none) × Open [] × (printed [] ≡ [])
  -- "framed as the saved ledger is", "Kind 16 .. file length and pair count, eight bytes each": how many bytes follow, the kind, the body
  pub start_record_is : (F R : ℕ) → start_record F R ≡ 18 ∷ 0 ∷ 0 ∷ 0 ∷ 16 ∷ 0 ∷ (to_little_endian 256 8 F ++ to_little_endian 256 8 R)
  -- "Kind 17 is a piece: one channel byte, then the bytes"
  pub piece_record_is : (c : ℕ) (piece : List ℕ) → piece_record c piece ≡ to_little_endian 256 4 (3 + length piece) ++ (17 ∷ 0 ∷ c ∷ piece)
  -- 8 file bytes and one pair
  pub start_example : start_record 8 1 ≡ 18 ∷ 0 ∷ 0 ∷ 0 ∷ 16 ∷ 0 ∷ 8 ∷ 0 ∷ 0 ∷ 0 ∷ 0 ∷ 0 ∷ 0 ∷ 0 ∷ 1 ∷ 0 ∷ 0 ∷ 0 ∷ 0 ∷ 0 ∷ 0 ∷ 0 ∷ []
  -- "prints the screen line after every record": a start, and a piece that is wholly taken
  pub start_prints : (bytes : List ℕ) (F R : ℕ) → Open bytes → StartWithin F R
      → Prints bytes (start_record F R) (line_of (started_night F R)) (started_night F R)
  pub piece_prints : (bytes piece : List ℕ) (w v : World) (c : ℕ) → Open bytes → running_after bytes ≡ transferring w → PieceWithin c piece
      → receive_of w c piece ≡ (took (length piece), v) → Prints bytes (piece_record c piece) (line_of v) v
  -- "or instead `REFUSED` and the number"
  pub refused_prints : (bytes piece : List ℕ) (w v : World) (c k : ℕ) → Open bytes → running_after bytes ≡ transferring w → PieceWithin c piece
      → receive_of w c piece ≡ (refused k, v) → Prints bytes (piece_record c piece) (number_line refused_word k) w
  -- "first prints `LEFT` and the count of remaining bytes on a line of its own"
  pub left_prints : (bytes piece : List ℕ) (w v : World) (c n : ℕ) → Open bytes → running_after bytes ≡ transferring w → PieceWithin c piece
      → receive_of w c piece ≡ (took n, v) → n < length piece → Prints bytes (piece_record c piece) (number_line left_word (length piece - n) ++ line_of v) v
  -- "or `RECORD` and the record's number .. after which it stops"
  pub malformed_stops : (bytes r more : List ℕ) → Open bytes → Malformed (running_after bytes) r
      → (so_far (bytes ++ (r ++ more)) ≡ so_far bytes ++ record_line (number_after bytes)) × (printed (bytes ++ (r ++ more)) ≡ so_far bytes ++ record_line (number_after bytes))
  -- a cut record, which only the end of the input shows
  pub cut_stops : (bytes r : List ℕ) → Open bytes → IsCut r → (so_far (bytes ++ r) ≡ so_far bytes) × (printed (bytes ++ r) ≡ so_far bytes ++ record_line (number_after bytes))
  -- at the end of a whole record nothing is added
  pub ends : (bytes : List ℕ) → Open bytes → printed bytes ≡ so_far bytes
  -- every other record is a start or a piece; and bytes are none, cut, too long, or begin with a whole record
  pub all_records : (s : Running) (r : List ℕ) → AllBelow 256 r → IsWhole r → Malformed s r ⊎ WellFormed s r
  pub all_bytes : (r : List ℕ) → (length r ≡ 0) ⊎ IsCut r ⊎ ((4 ≤ length r) × (16387 < length_field r)) ⊎ ((4 ≤ length r) × (4 + length_field r ≤ length r) × (length_field r ≤ 16387))
  -- "Each start zeroes the file", and gives ledgers of the pair count
  pub start_zeroes : (F R : ℕ) → StartWithin F R
      → ((started_night F R).t ≡ fresh F R) × ((started_night F R).lent.file ≡ replicate F 0)
      × ((started_night F R).lent.claimed ≡ replicate (2 * R) 0) × ((started_night F R).lent.doubtful ≡ replicate (2 * R) 0)
  -- "One space stands before each number": `RECORD 0`, `REFUSED 4`, `LEFT 9`
  pub record_line_is : (k : ℕ) → record_line k ≡ 82 ∷ 69 ∷ 67 ∷ 79 ∷ 82 ∷ 68 ∷ 32 ∷ (decimal k ++ (10 ∷ []))
  pub refused_line : (k : ℕ) → number_line refused_word k ≡ 82 ∷ 69 ∷ 70 ∷ 85 ∷ 83 ∷ 69 ∷ 68 ∷ 32 ∷ (decimal k ++ (10 ∷ []))
  pub left_line_is : (k : ℕ) → number_line left_word k ≡ 76 ∷ 69 ∷ 70 ∷ 84 ∷ 32 ∷ (decimal k ++ (10 ∷ []))
  -- no start is refused, a piece only by 2, 3 or 4, and the screen line never
  pub start_accepted : (F R : ℕ) → StartWithin F R → start_refusal (replicate (2 * R) 0) (replicate (2 * R) 0) ≡ 0
  pub refused_by : (bytes piece : List ℕ) (w v : World) (c k : ℕ) → running_after bytes ≡ transferring w → receive_of w c piece ≡ (refused k, v) → (k ≡ 2) ⊎ (k ≡ 3) ⊎ (k ≡ 4)
  pub line_written : (bytes out : List ℕ) (w : World) → running_after bytes ≡ transferring w → 80 ≤ length out
      → screen_refusal w.t w.lent.claimed w.lent.doubtful out ≡ 0
