-- The extended block header (document 01, "The block"): 17 bytes, a descriptor and two 64-bit numbers, most significant byte first.
--
--     descriptor   length, unused with EODC   offset, or n with EODC
--     1 byte       8 bytes                    8 bytes
use Rattle.std.specs.Prelude.{ℕ, Bool, cond, Result, Ok, Err, ◌&&◌, ◌||◌, List, [], ◌∷◌, ◌++◌, ltb, eqb, length, get_or, take, drop}
use Rattle.octets.specs.Digits.{from_big_endian, to_big_endian}
use Rattle.answers.specs.Written.{Written, first_refusal, room_refusal, written_by, written_after}
use Rattle.eblock.specs.Descriptor.{has, eodc, fault_of}
use Rattle.eblock.specs.declared.header.Header.{Header}
use Rattle.eblock.specs.declared.header.Header.TheVariants.{Data, Eodc}

abbrev pub header_length : ℕ
header_length = 17

-- the largest number of end markers that a sender may announce
abbrev pub count_limit : ℕ
count_limit = 64

-- ---- the three fields

abbrev pub descriptor_of : List ℕ → ℕ
descriptor_of h = get_or h 0 0

unfoldable pub second_of : List ℕ → ℕ
second_of h = from_big_endian 256 (take 8 (drop 1 h))

unfoldable pub third_of : List ℕ → ℕ
third_of h = from_big_endian 256 (take 8 (drop 9 h))

-- the bytes of a header with these three fields
unfoldable pub header_bytes : ℕ → ℕ → ℕ → List ℕ
header_bytes d second third = d ∷ (to_big_endian 256 8 second ++ to_big_endian 256 8 third)

-- ---- what reader and writer share

abbrev pub count_out_of_range : ℕ → Bool
count_out_of_range n = eqb n 0 || ltb count_limit n

-- 11, 12 or 13 by the descriptor, then 15 by n; 0 where both are accepted
unfoldable pub refusal_of : ℕ → ℕ → ℕ
refusal_of d third = first_refusal (fault_of d) (cond (has eodc d && count_out_of_range third) 15 0)

-- what an accepted header means: with EODC the second field says nothing and the third is n
abbrev pub meant : ℕ → ℕ → ℕ → Header
meant d second third = cond (has eodc d) (Eodc d third) (Data d second third)

-- ---- the reader

-- 21 where there are not 17 bytes, then as above
abbrev pub read_refusal : List ℕ → ℕ
read_refusal h = cond (eqb (length h) header_length) (refusal_of (descriptor_of h) (third_of h)) 21

unfoldable pub read_of : List ℕ → Result Header ℕ
read_of h = cond (ltb 0 (read_refusal h)) (Err (read_refusal h)) (Ok (meant (descriptor_of h) (second_of h) (third_of h)))

-- ---- the writer

-- as above, then 55 where fewer than 17 bytes are lent
abbrev pub write_refusal : ℕ → ℕ → List ℕ → ℕ
write_refusal d third out = first_refusal (refusal_of d third) (room_refusal header_length out)

-- the second field: the length, or 0 with EODC
unfoldable pub second_field : ℕ → ℕ → ℕ
second_field d len = cond (has eodc d) 0 len

unfoldable pub write_of : ℕ → ℕ → List ℕ → Written
write_of d third out = written_by (write_refusal d third out) header_length

unfoldable pub write_after : ℕ → ℕ → ℕ → List ℕ → List ℕ
write_after d len third out = written_after (write_refusal d third out) (header_bytes d (second_field d len) third) out

-- ---- the values that an answer carries

unfoldable pub values : Result Header ℕ → List ℕ
values (Ok (Data d len offset)) = d ∷ len ∷ offset ∷ []
values (Ok (Eodc d n)) = d ∷ n ∷ []
values (Err k) = []
