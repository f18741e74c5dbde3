-- Saved ledgers (document 01, "Saved ledger, kind 1"; document 02, Item 7): a record of kind 1 or 2 read into a ledger, and a ledger written as one of kind 1.
use Rattle.std.specs.Prelude.{ℕ, cond, Result, Ok, Err, List, ltb, length}
use Rattle.answers.specs.Written.{first_refusal, room_refusal, Written, written_by, written_after}
use Rattle.answers.specs.Loaded.{Loaded}
use Rattle.ledger.specs.Pairs.{Pairs, size}
use Rattle.ledger.specs.Ledger.{length_wrong, ledger_refusal, pairs_of, laid_out, capacity}
use Rattle.savedrecords.specs.Kind.{kind_one, kind_two}
use Rattle.savedrecords.specs.Record.{file_length_of, saved_pairs, record_refusal, length_refusal, record_of}
use Rattle.savedrecords.specs.declared.kind.Kind.{Kind}

-- ---- the reader of each kind: 53, 61, 62, 63; 64 where there are more pairs than the ledger has; 65 where an end is above the file length that the
-- record has; 0 where it reads

unfoldable pub read_refusal : Kind → List ℕ → List ℕ → ℕ
read_refusal kind bytes ledger =
    cond (length_wrong ledger) 53
    (first_refusal (record_refusal kind bytes)
    (cond (ltb (capacity ledger) (size (saved_pairs kind bytes))) 64
    (cond kind.sized (length_refusal (file_length_of bytes) (saved_pairs kind bytes)) 0)))

unfoldable pub read_after : Kind → List ℕ → List ℕ → List ℕ
read_after kind bytes ledger = cond (ltb 0 (read_refusal kind bytes ledger)) ledger (laid_out (capacity ledger) (saved_pairs kind bytes))

-- kind 1 answers that it was read
unfoldable pub read_saved : List ℕ → List ℕ → Loaded
read_saved bytes ledger = cond (ltb 0 (read_refusal kind_one bytes ledger)) (Err (read_refusal kind_one bytes ledger)) (Ok tt)

abbrev pub read_saved_after : List ℕ → List ℕ → List ℕ
read_saved_after = read_after kind_one

-- kind 2 answers the file length
unfoldable pub read_sized : List ℕ → List ℕ → Result ℕ ℕ
read_sized bytes ledger = cond (ltb 0 (read_refusal kind_two bytes ledger)) (Err (read_refusal kind_two bytes ledger)) (Ok (file_length_of bytes))

abbrev pub read_sized_after : List ℕ → List ℕ → List ℕ
read_sized_after = read_after kind_two

-- the file length in its answer, 0 where it is refused
unfoldable pub loaded_for_length : Result ℕ ℕ → ℕ
loaded_for_length (Ok f) = f
loaded_for_length (Err k) = 0

-- ---- the writer, of kind 1: 53, 1, 55; 0 where it writes

-- kind 1 has no file length, so any number does for it
unfoldable pub saved_of : Pairs → List ℕ
saved_of ps = record_of kind_one 0 ps

unfoldable pub write_saved_refusal : List ℕ → List ℕ → ℕ
write_saved_refusal ledger out = first_refusal (ledger_refusal ledger) (room_refusal (length (saved_of (pairs_of ledger))) out)

unfoldable pub write_saved : List ℕ → List ℕ → Written
write_saved ledger out = written_by (write_saved_refusal ledger out) (length (saved_of (pairs_of ledger)))

unfoldable pub write_saved_after : List ℕ → List ℕ → List ℕ
write_saved_after ledger out = written_after (write_saved_refusal ledger out) (saved_of (pairs_of ledger)) out
