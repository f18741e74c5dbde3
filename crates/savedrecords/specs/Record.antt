-- The record of a saved ledger, over its kind: its parts, the numbers by which it is refused, and its bytes.
use Rattle.std.specs.Prelude.{ℕ, zero, suc, ◌+◌, ◌-◌, ◌/◌, ◌%◌, Bool, cond, ◌&&◌, ◌||◌, not, List, [], ◌++◌, leb, ltb, eqb, length, take, drop}
use Rattle.octets.specs.Digits.{from_little_endian, to_little_endian}
use Rattle.answers.specs.Written.{first_refusal}
use Rattle.frames.specs.Frame.{field_length, frame_length, length_field, kind_of, body_of, framed}
use Rattle.ledger.specs.Pairs.{Pairs, none, pair, obey_from, ends_at_most}
use Rattle.savedrecords.specs.Kind.{head_length, end_of, second_of}
use Rattle.savedrecords.specs.declared.kind.Kind.{Kind}
use Rattle.savedrecords.specs.declared.kind.SecondNumber.{SecondNumber}

-- ---- pairs in bytes, each number in eight of them, little-endian

abbrev pub pair_length : ℕ
pair_length = 16

-- start and end of the pair that the bytes begin with
abbrev pub start_in : List ℕ → ℕ
start_in bytes = from_little_endian 256 (take 8 bytes)

abbrev pub end_in : SecondNumber → List ℕ → ℕ
end_in second bytes = end_of second (start_in bytes) (from_little_endian 256 (take 8 (drop 8 bytes)))

-- the first n pairs of the bytes
unfoldable pub pairs_in : SecondNumber → ℕ → List ℕ → Pairs
pairs_in second zero bytes = none
pairs_in second (suc n) bytes = pair (start_in bytes) (end_in second bytes) (pairs_in second n (drop pair_length bytes))

-- the bytes of the pairs
unfoldable pub pair_bytes : SecondNumber → Pairs → List ℕ
pair_bytes second none = []
pair_bytes second (pair a b ps) = to_little_endian 256 8 a ++ (to_little_endian 256 8 (second_of second a b) ++ pair_bytes second ps)

-- ---- a record's parts

-- the file length, in the body's first eight bytes
unfoldable pub file_length_of : List ℕ → ℕ
file_length_of bytes = from_little_endian 256 (take 8 (body_of bytes))

-- what comes after the frame and the file length
abbrev pub pair_part : Kind → List ℕ → List ℕ
pair_part kind bytes = drop (head_length kind) (body_of bytes)

abbrev pub saved_pairs : Kind → List ℕ → Pairs
saved_pairs kind bytes = pairs_in kind.second (length (pair_part kind bytes) / pair_length) (pair_part kind bytes)

-- ---- the numbers by which it is refused

-- 61: fewer than 6 bytes, or a length field that is wrong; 62: another kind than was asked for; 0 where the frame is right
unfoldable pub frame_refusal : ℕ → List ℕ → ℕ
frame_refusal number bytes =
    cond (not (leb frame_length (length bytes) && eqb (length_field bytes) (length bytes - field_length))) 61
    (cond (not (eqb (kind_of bytes) number)) 62 0)

-- 63: a body without its whole file length, or whose pairs are not whole or break the ledger rule
unfoldable pub body_wrong : Kind → List ℕ → Bool
body_wrong kind bytes =
    not (leb (head_length kind) (length (body_of bytes)) && (eqb (length (pair_part kind bytes) % pair_length) 0 && obey_from 0 (saved_pairs kind bytes)))

-- 61, 62, 63; 0 where it is a record of this kind
unfoldable pub record_refusal : Kind → List ℕ → ℕ
record_refusal kind bytes = first_refusal (frame_refusal kind.number bytes) (cond (body_wrong kind bytes) 63 0)

-- 65: an end above the file length
unfoldable pub length_refusal : ℕ → Pairs → ℕ
length_refusal f ps = cond (ends_at_most f ps) 0 65

-- ---- its bytes

-- the record of this kind with these pairs; the file length f plays no part in a kind that has none
unfoldable pub record_of : Kind → ℕ → Pairs → List ℕ
record_of kind f ps = framed kind.number (to_little_endian 256 (head_length kind) f ++ pair_bytes kind.second ps)

-- ---- what the code tests in place of the ledger rule and of all ends

-- a pair that starts at a and is n long may come after one that starts at `start` and is `len` long; a length of 0 says that there is none before it
abbrev pub may_follow : ℕ → ℕ → ℕ → ℕ → Bool
may_follow start len a n = (eqb len 0 || ltb (start + len) a) && ltb 0 n

-- where the last pair ends, 0 where there is none
unfoldable pub last_end : Pairs → ℕ
last_end none = 0
last_end (pair a b none) = b
last_end (pair a b (pair c d ps)) = last_end (pair c d ps)
