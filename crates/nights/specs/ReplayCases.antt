-- Worked cases of recordings (document 02, Item 4): document 01's example, each refusal, each LEFT and each malformed record, as one statement over a list of cases.
use Rattle.std.specs.Prelude.{ℕ, ◌≡◌, List, [], ◌∷◌, ◌++◌, replicate}
use Rattle.octets.specs.Cases.{AllHold}
use Rattle.eblock.specs.Header.{header_bytes}
use Rattle.frames.specs.Frame.{framed}
use Rattle.transfer.specs.Calls.{Call, receive}
use Rattle.transfer.specs.Example.{plai, first_call, second_call, third_call}
use Rattle.screen.specs.ScreenCases.{first_line, second_line, third_line, suspect_line}
use Rattle.nights.specs.Reading.{joined}
use Rattle.nights.specs.Night.{so_far, printed}
use Rattle.nights.specs.Replay.{start_record, piece_record}

pub data Case : Type 0 where
  -- a recording of these records prints these lines
  prints : List (List ℕ) → List (List ℕ) → Case
  -- and so far, before its end
  prints_so_far : List (List ℕ) → List (List ℕ) → Case

abbrev pub Holds : Case → Type 0
Holds (prints records lines) = printed (joined records) ≡ joined lines
Holds (prints_so_far records lines) = so_far (joined records) ≡ joined lines

-- ---- records

-- 8 file bytes and one pair
abbrev pub start : List ℕ
start = start_record 8 1

abbrev pub recorded : Call → List ℕ
recorded (receive c piece) = piece_record c piece

-- ---- lines

-- GUESS ended 0 of ? bytes 0
abbrev pub start_line : List ℕ
start_line = 71 ∷ 85 ∷ 69 ∷ 83 ∷ 83 ∷ 32 ∷ 101 ∷ 110 ∷ 100 ∷ 101 ∷ 100 ∷ 32 ∷ 48 ∷ 32 ∷ 111 ∷ 102 ∷ 32 ∷ 63 ∷ 32 ∷ 98 ∷ 121 ∷ 116 ∷ 101 ∷ 115 ∷ 32 ∷ 48 ∷ 10 ∷ []

-- GUESS ended 1 of ? bytes 0
abbrev pub ended_line : List ℕ
ended_line = 71 ∷ 85 ∷ 69 ∷ 83 ∷ 83 ∷ 32 ∷ 101 ∷ 110 ∷ 100 ∷ 101 ∷ 100 ∷ 32 ∷ 49 ∷ 32 ∷ 111 ∷ 102 ∷ 32 ∷ 63 ∷ 32 ∷ 98 ∷ 121 ∷ 116 ∷ 101 ∷ 115 ∷ 32 ∷ 48 ∷ 10 ∷ []

-- GUESS ended 0 of 1 bytes 0
abbrev pub counted_line : List ℕ
counted_line = 71 ∷ 85 ∷ 69 ∷ 83 ∷ 83 ∷ 32 ∷ 101 ∷ 110 ∷ 100 ∷ 101 ∷ 100 ∷ 32 ∷ 48 ∷ 32 ∷ 111 ∷ 102 ∷ 32 ∷ 49 ∷ 32 ∷ 98 ∷ 121 ∷ 116 ∷ 101 ∷ 115 ∷ 32 ∷ 48 ∷ 10 ∷ []

-- BROKEN 11 on 0 bytes 0
abbrev pub broken_line : List ℕ
broken_line = 66 ∷ 82 ∷ 79 ∷ 75 ∷ 69 ∷ 78 ∷ 32 ∷ 49 ∷ 49 ∷ 32 ∷ 111 ∷ 110 ∷ 32 ∷ 48 ∷ 32 ∷ 98 ∷ 121 ∷ 116 ∷ 101 ∷ 115 ∷ 32 ∷ 48 ∷ 10 ∷ []

-- BROKEN 19 on 1 bytes 0
abbrev pub too_many_line : List ℕ
too_many_line = 66 ∷ 82 ∷ 79 ∷ 75 ∷ 69 ∷ 78 ∷ 32 ∷ 49 ∷ 57 ∷ 32 ∷ 111 ∷ 110 ∷ 32 ∷ 49 ∷ 32 ∷ 98 ∷ 121 ∷ 116 ∷ 101 ∷ 115 ∷ 32 ∷ 48 ∷ 10 ∷ []

-- REFUSED 2
abbrev pub refused2 : List ℕ
refused2 = 82 ∷ 69 ∷ 70 ∷ 85 ∷ 83 ∷ 69 ∷ 68 ∷ 32 ∷ 50 ∷ 10 ∷ []

-- REFUSED 3
abbrev pub refused3 : List ℕ
refused3 = 82 ∷ 69 ∷ 70 ∷ 85 ∷ 83 ∷ 69 ∷ 68 ∷ 32 ∷ 51 ∷ 10 ∷ []

-- REFUSED 4
abbrev pub refused4 : List ℕ
refused4 = 82 ∷ 69 ∷ 70 ∷ 85 ∷ 83 ∷ 69 ∷ 68 ∷ 32 ∷ 52 ∷ 10 ∷ []

-- LEFT 1
abbrev pub left1 : List ℕ
left1 = 76 ∷ 69 ∷ 70 ∷ 84 ∷ 32 ∷ 49 ∷ 10 ∷ []

-- LEFT 2
abbrev pub left2 : List ℕ
left2 = 76 ∷ 69 ∷ 70 ∷ 84 ∷ 32 ∷ 50 ∷ 10 ∷ []

-- LEFT 12
abbrev pub left12 : List ℕ
left12 = 76 ∷ 69 ∷ 70 ∷ 84 ∷ 32 ∷ 49 ∷ 50 ∷ 10 ∷ []

-- RECORD 0
abbrev pub record0 : List ℕ
record0 = 82 ∷ 69 ∷ 67 ∷ 79 ∷ 82 ∷ 68 ∷ 32 ∷ 48 ∷ 10 ∷ []

-- RECORD 1
abbrev pub record1 : List ℕ
record1 = 82 ∷ 69 ∷ 67 ∷ 79 ∷ 82 ∷ 68 ∷ 32 ∷ 49 ∷ 10 ∷ []

-- RECORD 2
abbrev pub record2 : List ℕ
record2 = 82 ∷ 69 ∷ 67 ∷ 79 ∷ 82 ∷ 68 ∷ 32 ∷ 50 ∷ 10 ∷ []

-- ---- cases

-- a malformed record behind a start
abbrev pub behind_start : List ℕ → Case
behind_start r = prints (start ∷ r ∷ []) (start_line ∷ record1 ∷ [])

abbrev pub cases : List Case
cases =
    -- document 01's example; one piece more is refused by 3
    prints (start ∷ recorded first_call ∷ recorded second_call ∷ recorded third_call ∷ []) (start_line ∷ first_line ∷ second_line ∷ third_line ∷ [])
    ∷ prints (start ∷ recorded first_call ∷ recorded second_call ∷ recorded third_call ∷ piece_record 0 (1 ∷ []) ∷ []) (start_line ∷ first_line ∷ second_line ∷ third_line ∷ refused3 ∷ [])
    -- bit 32: SUSPECT, after which even an empty piece is refused by 3
    ∷ prints (start ∷ piece_record 0 (header_bytes 32 4 0 ++ plai) ∷ piece_record 0 (header_bytes 72 0 1) ∷ piece_record 5 [] ∷ []) (start_line ∷ first_line ∷ suspect_line ∷ refused3 ∷ [])
    -- there is no channel 64
    ∷ prints (start ∷ piece_record 64 (1 ∷ []) ∷ []) (start_line ∷ refused2 ∷ [])
    -- where a channel ends, what is behind it is left; offered again it is refused by 4
    ∷ prints (start ∷ piece_record 0 (header_bytes 8 0 0 ++ (1 ∷ [])) ∷ piece_record 0 (1 ∷ []) ∷ []) (start_line ∷ left1 ∷ ended_line ∷ refused4 ∷ [])
    -- a fault with twelve bytes behind it, and at the last byte
    ∷ prints (start ∷ piece_record 0 (header_bytes 17 0 0 ++ replicate 12 1) ∷ []) (start_line ∷ left12 ∷ broken_line ∷ [])
    ∷ prints (start ∷ piece_record 0 (header_bytes 17 0 0) ∷ []) (start_line ∷ broken_line ∷ [])
    -- 19: the whole piece is left
    ∷ prints (start ∷ piece_record 0 (header_bytes 64 0 1) ∷ piece_record 1 (1 ∷ 2 ∷ []) ∷ []) (start_line ∷ counted_line ∷ left2 ∷ too_many_line ∷ [])
    -- an empty piece
    ∷ prints (start ∷ piece_record 0 [] ∷ []) (start_line ∷ start_line ∷ [])
    -- a start takes the place of a transfer: what was claimed can be claimed again
    ∷ prints (start ∷ recorded first_call ∷ start_record 4 1 ∷ recorded first_call ∷ []) (start_line ∷ first_line ∷ start_line ∷ first_line ∷ [])
    -- the largest start, the smallest, and the longest piece
    ∷ prints (start_record 32768 256 ∷ []) (start_line ∷ [])
    ∷ prints (start_record 0 0 ∷ []) (start_line ∷ [])
    ∷ prints (start ∷ piece_record 64 (replicate 16384 1) ∷ []) (start_line ∷ refused2 ∷ [])
    -- a cut record: one byte of the length, three of them, and one byte less than it says
    ∷ behind_start (3 ∷ [])
    ∷ behind_start (3 ∷ 0 ∷ 0 ∷ [])
    ∷ behind_start (3 ∷ 0 ∷ 0 ∷ 0 ∷ 17 ∷ 0 ∷ [])
    -- a length below that of a kind
    ∷ behind_start (1 ∷ 0 ∷ 0 ∷ 0 ∷ 17 ∷ [])
    -- another kind: 18, and 273, of which the first byte is 17
    ∷ behind_start (framed 18 (0 ∷ []))
    ∷ behind_start (framed 273 (0 ∷ []))
    -- a wrong body length: 15 and 17 bytes in place of 16, and no channel byte
    ∷ behind_start (framed 16 (replicate 15 0))
    ∷ behind_start (framed 16 (replicate 17 0))
    ∷ behind_start (framed 17 [])
    -- a start above 32,768 file bytes or 256 pairs
    ∷ behind_start (start_record 32769 1)
    ∷ behind_start (start_record 8 257)
    -- a piece above 16,384 bytes, and as soon as its length, 16,388, is there
    ∷ behind_start (piece_record 0 (replicate 16385 1))
    ∷ behind_start (4 ∷ 64 ∷ 0 ∷ 0 ∷ [])
    ∷ prints_so_far (start ∷ (4 ∷ 64 ∷ 0 ∷ 0 ∷ []) ∷ []) (start_line ∷ record1 ∷ [])
    -- a piece before any start, which is the first record
    ∷ prints (piece_record 0 (1 ∷ []) ∷ []) (record0 ∷ [])
    -- bytes behind a malformed record print nothing
    ∷ prints (start ∷ framed 18 [] ∷ start ∷ []) (start_line ∷ record1 ∷ [])
    -- a refused record is counted
    ∷ prints (start ∷ piece_record 64 [] ∷ framed 18 [] ∷ []) (start_line ∷ refused2 ∷ record2 ∷ [])
    -- an empty recording
    ∷ prints [] []
    -- a record that is cut may still come
    ∷ prints_so_far (start ∷ (3 ∷ 0 ∷ 0 ∷ 0 ∷ 17 ∷ 0 ∷ []) ∷ []) (start_line ∷ [])
    ∷ []

abbrev pub ReplayCases : Type 0
ReplayCases = AllHold Holds cases
