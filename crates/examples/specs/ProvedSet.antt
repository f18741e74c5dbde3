-- The proved set (document 01's word): the examples that "Examples on each side" marks with a star, in its order and no others, as one
-- statement over a list of cases.
use Rattle.std.specs.Prelude.{ℕ, ◌≡◌, Ok, List, [], ◌∷◌, map, length, replicate}
use Rattle.octets.specs.Cases.{AllHold}
use Rattle.answers.specs.Refusal.{number_in}
use Rattle.answers.specs.Written.{written_bytes}
use Rattle.eblock.specs.Descriptor.{fault_of}
use Rattle.eblock.specs.Header.{meant, read_of, write_of, write_after, header_bytes}
use Rattle.rangelists.specs.RangeText.{read_ranges, read_ranges_after}
use Rattle.transfer.specs.Receive.{Answer, took}
use Rattle.transfer.specs.Calls.{Call, receive, started_world, answers_of, after}

pub data Case : Type 0 where
  -- a header with these three fields is these 17 bytes
  header : ℕ → ℕ → ℕ → List ℕ → Case
  -- a descriptor has this fault
  descriptor : ℕ → ℕ → Case
  -- these calls, with a file of 8 bytes and ledgers of one pair, end with this fault, 0 being none, and leave this claimed ledger
  received : List Call → ℕ → List ℕ → Case
  -- a range list, read into a ledger of one pair, is answered with this number, 0 being accepted, and leaves this ledger
  ranges : List ℕ → ℕ → List ℕ → Case

-- 17 lent bytes and a lent ledger of one pair, filled so that what is unchanged shows
abbrev pub lent_bytes : List ℕ
lent_bytes = replicate 17 238

abbrev pub lent_ledger : List ℕ
lent_ledger = 7 ∷ 7 ∷ []

-- a call that takes all of its piece
abbrev pub takes_all : Call → Answer
takes_all (receive channel piece) = took (length piece)

-- a header is read and written; the reader, the writer and the receiver find the fault of a descriptor; every call takes its whole piece
abbrev pub Holds : Case → Type 0
Holds (header d second third bytes) =
    (read_of bytes ≡ Ok (meant d second third))
    × (written_bytes (write_of d third lent_bytes) ≡ 17)
    × (write_after d second third lent_bytes ≡ bytes)
Holds (descriptor d fault) =
    (fault_of d ≡ fault)
    × (number_in (read_of (header_bytes d 0 0)) ≡ fault)
    × (number_in (write_of d 0 lent_bytes) ≡ fault)
    × ((after (started_world (replicate 8 0) lent_ledger lent_ledger) (receive 0 (header_bytes d 0 0) ∷ [])).t.fault ≡ fault)
Holds (received calls fault ledger) =
    let start = started_world (replicate 8 0) lent_ledger lent_ledger in
    (answers_of start calls ≡ map takes_all calls)
    × ((after start calls).t.fault ≡ fault)
    × ((after start calls).lent.claimed ≡ ledger)
Holds (ranges text k ledger) =
    (number_in (read_ranges text lent_ledger) ≡ k) × (read_ranges_after text lent_ledger ≡ ledger)

-- a header of a payload of so many bytes at that offset
abbrev pub data_header : ℕ → ℕ → List ℕ
data_header offset len = header_bytes 0 len offset

abbrev pub starred : List Case
starred =
    -- 8, length 5, offset 256; 72, n = 3
    header 8 5 256 (0x08 ∷ 0 ∷ 0 ∷ 0 ∷ 0 ∷ 0 ∷ 0 ∷ 0 ∷ 0x05 ∷ 0 ∷ 0 ∷ 0 ∷ 0 ∷ 0 ∷ 0 ∷ 0x01 ∷ 0x00 ∷ [])
    ∷ header 72 0 3 (0x48 ∷ 0 ∷ 0 ∷ 0 ∷ 0 ∷ 0 ∷ 0 ∷ 0 ∷ 0 ∷ 0 ∷ 0 ∷ 0 ∷ 0 ∷ 0 ∷ 0 ∷ 0 ∷ 0x03 ∷ [])
    -- descriptors
    ∷ descriptor 17 11
    ∷ descriptor 144 12
    ∷ descriptor 4 13
    ∷ descriptor 96 13
    -- F = 8: offset 4 length 4 is accepted, offset 5 length 4 is 16
    ∷ received (receive 0 (data_header 4 4) ∷ []) 0 (4 ∷ 8 ∷ [])
    ∷ received (receive 0 (data_header 5 4) ∷ []) 16 (0 ∷ 0 ∷ [])
    -- after 0 to 3 is claimed: 3 to 4 is 17, 4 to 5 gives one pair (0, 6)
    ∷ received (receive 0 (data_header 0 4) ∷ receive 1 (data_header 3 2) ∷ []) 17 (0 ∷ 4 ∷ [])
    ∷ received (receive 0 (data_header 0 4) ∷ receive 1 (data_header 4 2) ∷ []) 0 (0 ∷ 6 ∷ [])
    -- 0-29,30-89 and 60-89,0-59,5-5 both give (0, 90); 9-8 is 51
    ∷ ranges (48 ∷ 45 ∷ 50 ∷ 57 ∷ 44 ∷ 51 ∷ 48 ∷ 45 ∷ 56 ∷ 57 ∷ []) 0 (0 ∷ 90 ∷ [])
    ∷ ranges (54 ∷ 48 ∷ 45 ∷ 56 ∷ 57 ∷ 44 ∷ 48 ∷ 45 ∷ 53 ∷ 57 ∷ 44 ∷ 53 ∷ 45 ∷ 53 ∷ []) 0 (0 ∷ 90 ∷ [])
    ∷ ranges (57 ∷ 45 ∷ 56 ∷ []) 51 (0 ∷ 0 ∷ [])
    ∷ []

abbrev pub ProvedSet : Type 0
ProvedSet = AllHold Holds starred
