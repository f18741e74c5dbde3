-- A saved ledger of one kind as one of another (document 02, Item 7).
use Rattle.std.specs.Prelude.{ℕ, List, length}
use Rattle.answers.specs.Written.{first_refusal, room_refusal, Written, written_by, written_after}
use Rattle.savedrecords.specs.Kind.{kind_one, kind_two}
use Rattle.savedrecords.specs.Record.{file_length_of, saved_pairs, record_refusal, length_refusal, record_of}
use Rattle.savedrecords.specs.declared.kind.Kind.{Kind}

-- for a file of length f: 61, 62, 63; 65 where an end is above f; 55; 0 where it is converted
unfoldable pub convert_refusal : Kind → Kind → ℕ → List ℕ → List ℕ → ℕ
convert_refusal from to f bytes out =
    first_refusal (record_refusal from bytes)
    (first_refusal (length_refusal f (saved_pairs from bytes)) (room_refusal (length (record_of to f (saved_pairs from bytes))) out))

unfoldable pub convert : Kind → Kind → ℕ → List ℕ → List ℕ → Written
convert from to f bytes out = written_by (convert_refusal from to f bytes out) (length (record_of to f (saved_pairs from bytes)))

unfoldable pub convert_after : Kind → Kind → ℕ → List ℕ → List ℕ → List ℕ
convert_after from to f bytes out = written_after (convert_refusal from to f bytes out) (record_of to f (saved_pairs from bytes)) out

-- kind 1 as kind 2, given the file length
abbrev pub to_two : ℕ → List ℕ → List ℕ → Written
to_two f bytes out = convert kind_one kind_two f bytes out

abbrev pub to_two_after : ℕ → List ℕ → List ℕ → List ℕ
to_two_after f bytes out = convert_after kind_one kind_two f bytes out

-- kind 2 as kind 1, by the file length that it has
abbrev pub to_one : List ℕ → List ℕ → Written
to_one bytes out = convert kind_two kind_one (file_length_of bytes) bytes out

abbrev pub to_one_after : List ℕ → List ℕ → List ℕ
to_one_after bytes out = convert_after kind_two kind_one (file_length_of bytes) bytes out
