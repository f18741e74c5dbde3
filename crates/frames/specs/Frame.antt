-- The frame of a record, which saved ledgers, recordings and the probe's requests share (document 01, "Saved ledger, kind 1"; document 02, Item 4):
-- a four-byte length, a two-byte kind, both little-endian, and a body.
--
--     length of all that follows   kind      body
--     4 bytes                      2 bytes
use Rattle.std.specs.Prelude.{ℕ, ◌+◌, cond, ◌&&◌, List, ◌++◌, leb, ltb, eqb, length, take, drop}
use Rattle.octets.specs.Digits.{from_little_endian, to_little_endian}
use Rattle.frames.specs.declared.frame.First.{First}
use Rattle.frames.specs.declared.frame.First.TheVariants.{Nothing, Cut, TooLong, Whole}

-- ---- its parts

-- the length field, and with the kind all that stands before the body
abbrev pub field_length : ℕ
field_length = 4

abbrev pub frame_length : ℕ
frame_length = 6

-- how many bytes follow the length field, as it says
unfoldable pub length_field : List ℕ → ℕ
length_field bytes = from_little_endian 256 (take field_length bytes)

unfoldable pub kind_of : List ℕ → ℕ
kind_of bytes = from_little_endian 256 (take 2 (drop field_length bytes))

abbrev pub body_of : List ℕ → List ℕ
body_of bytes = drop frame_length bytes

-- ---- what is written

-- the six bytes before a body of n bytes, where n is at most 4,294,967,293; of a greater length the field has the low four bytes
unfoldable pub frame_of : ℕ → ℕ → List ℕ
frame_of kind n = to_little_endian 256 4 (2 + n) ++ to_little_endian 256 2 kind

-- a record of this kind with this body
unfoldable pub framed : ℕ → List ℕ → List ℕ
framed kind body = to_little_endian 256 4 (2 + length body) ++ (to_little_endian 256 2 kind ++ body)

-- ---- what is read: the record that bytes begin with

-- how many bytes it has, as far as they tell: four until the length field is there
unfoldable pub record_length : List ℕ → ℕ
record_length bytes = cond (ltb (length bytes) field_length) field_length (field_length + length_field bytes)

-- no byte is there; the length field says more than the limit; the record is not there to its end; or it is whole
unfoldable pub first_record : ℕ → List ℕ → First
first_record limit bytes =
    cond (eqb (length bytes) 0) Nothing
    (cond (leb field_length (length bytes) && ltb limit (length_field bytes)) TooLong
    (cond (ltb (length bytes) (record_length bytes)) Cut (Whole (record_length bytes))))
