-- What document 02, Item 7, asks of kind 2 and of the conversions, a field for each sentence. Bytes are said to be below 256 where the numbers in them have to fit
-- 64 bits.
use Rattle.std.specs.Prelude.{ℕ, suc, ◌+◌, ◌*◌, ◌-◌, ◌/◌, ◌≤◌, ◌<◌, ◌≡◌, ◌↔◌, true, Ok, Err, List, [], ◌∷◌, ◌++◌, length, take, drop, replicate}
use Rattle.octets.specs.Digits.{AllBelow, from_little_endian, to_little_endian}
use Rattle.answers.specs.Refusal.{number_in}
use Rattle.ledger.specs.Pairs.{Pairs, none, pair, size, ObeyFrom, ends_at_most}
use Rattle.savedrecords.specs.Kind.{kind_one, kind_two, head_length}
use Rattle.savedrecords.specs.Record.{pairs_in, pair_bytes, record_refusal, record_of}
use Rattle.savedrecords.specs.RecordCases.{RightFrame, RightRecord}
use Rattle.savedrecords.specs.declared.kind.Kind.{Kind}
use Rattle.savedrecords.specs.declared.kind.SecondNumber.TheVariants.{End, Length}
use Rattle.savedledgers.specs.Saved.{read_refusal, read_saved, read_saved_after, read_sized, read_sized_after}
use Rattle.savedledgers.specs.SavedReading.{RightLength, SavedReading}
use Rattle.savedconversions.specs.Conversion.{to_two, to_two_after, to_one, to_one_after}
use Rattle.savedconversions.specs.ConversionCases.{ConversionCases}

-- what the frame says is its kind, and what a body of kind 2 begins with
abbrev pub kind_in : List ℕ → ℕ
kind_in bytes = from_little_endian 256 (take 2 (drop 4 bytes))

abbrev pub length_in : List ℕ → ℕ
length_in bytes = from_little_endian 256 (take 8 (drop 6 bytes))

-- the two numbers of the pair with the number k of a body whose pairs come after n bytes
abbrev pub start_at : ℕ → ℕ → List ℕ → ℕ
start_at n k bytes = from_little_endian 256 (take 8 (drop (16 * k) (drop n (drop 6 bytes))))

abbrev pub second_at : ℕ → ℕ → List ℕ → ℕ
second_at n k bytes = from_little_endian 256 (take 8 (drop (16 * k + 8) (drop n (drop 6 bytes))))

pub record KindTwo : Type 0 where
  -- kind 2: after the frame the file length, in eight bytes,
  pub holds : (f : ℕ) (ps : Pairs)
      → record_of kind_two f ps ≡ to_little_endian 256 4 (10 + 16 * size ps) ++ (to_little_endian 256 2 2 ++ (to_little_endian 256 8 f ++ pair_bytes Length ps))
  -- and for each pair its start and its length,
  pub start_and_length : (a b : ℕ) (ps : Pairs) → pair_bytes Length (pair a b ps) ≡ to_little_endian 256 8 a ++ (to_little_endian 256 8 (b - a) ++ pair_bytes Length ps)
  -- where kind 1 has its start and its end
  pub start_and_end : (a b : ℕ) (ps : Pairs) → pair_bytes End (pair a b ps) ≡ to_little_endian 256 8 a ++ (to_little_endian 256 8 b ++ pair_bytes End ps)
  -- from kind 1, for a file length that is handed over: the cases of 61, 62 and 63, of 65 by that length, and of 55
  pub to_2 : (f : ℕ) (bytes out : List ℕ) → ConversionCases kind_one kind_two f bytes out (to_two f bytes out) (to_two_after f bytes out)
  -- the reader of kind 2: its cases, 65 behind 64, and the number that it answers
  pub reads_2 : (bytes ledger : List ℕ) → SavedReading kind_two bytes ledger
  pub reads_2_number : (bytes ledger : List ℕ) → number_in (read_sized bytes ledger) ≡ read_refusal kind_two bytes ledger
  -- an end is the sum of start and length, however large:
  pub ends_whole : (n : ℕ) (bytes : List ℕ) → let a = from_little_endian 256 (take 8 bytes) in
      pairs_in Length (suc n) bytes ≡ pair a (a + from_little_endian 256 (take 8 (drop 8 bytes))) (pairs_in Length n (drop 16 bytes))
  -- from 2^64 on it is 63 if another pair comes after it,
  pub end_then_pair : (bytes : List ℕ) (k : ℕ) → AllBelow 256 bytes → RightFrame bytes → kind_in bytes ≡ 2 → 16 * (k + 2) ≤ length (drop 14 bytes)
      → 18446744073709551616 ≤ start_at 8 k bytes + second_at 8 k bytes → record_refusal kind_two bytes ≡ 63
  -- and 65 if none does, by the conversion, and by the reader where the ledger has pairs enough
  pub end_last : (bytes ledger out : List ℕ) (k : ℕ) → AllBelow 256 bytes → RightRecord kind_two bytes → 16 * (k + 1) ≡ length (drop 14 bytes)
      → 18446744073709551616 ≤ start_at 8 k bytes + second_at 8 k bytes
      → (RightLength ledger → k < length ledger / 2 → read_refusal kind_two bytes ledger ≡ 65) × (number_in (to_one bytes out) ≡ 65)
  -- too few bytes for the file length: 63
  pub short : (bytes : List ℕ) → RightFrame bytes → kind_in bytes ≡ 2 → length (drop 6 bytes) < 8 → record_refusal kind_two bytes ≡ 63
  -- what was read without a refusal is answered with the file length
  pub answers_length : (bytes ledger : List ℕ) → read_refusal kind_two bytes ledger ≡ 0 → read_sized bytes ledger ≡ Ok (length_in bytes)
  -- 62: the frame has another kind than was asked for, which is 1 or 2
  pub other_kind : (kind : Kind) (bytes : List ℕ) → (record_refusal kind bytes ≡ 62) ↔ (RightFrame bytes × (kind_in bytes ≡ kind.number → ⊥))
  pub expected : (kind_one.number ≡ 1) × (kind_two.number ≡ 2)
  -- from kind 2: the same cases, 65 by the length that the record has, and what is written has no file length
  pub back : (bytes out : List ℕ) → ConversionCases kind_two kind_one (length_in bytes) bytes out (to_one bytes out) (to_one_after bytes out)
  pub drops_length : (f : ℕ) (ps : Pairs) → record_of kind_one f ps ≡ to_little_endian 256 4 (2 + 16 * size ps) ++ (to_little_endian 256 2 1 ++ pair_bytes End ps)
  -- after a refusal, by 65 or another number, all that was lent is as before
  pub unchanged_reading : (bytes ledger : List ℕ) (k : ℕ) → 0 < k → number_in (read_sized bytes ledger) ≡ k → read_sized_after bytes ledger ≡ ledger
  pub unchanged_to_2 : (f : ℕ) (bytes out : List ℕ) (k : ℕ) → 0 < k → number_in (to_two f bytes out) ≡ k → to_two_after f bytes out ≡ out
  pub unchanged_back : (bytes out : List ℕ) (k : ℕ) → 0 < k → number_in (to_one bytes out) ≡ k → to_one_after bytes out ≡ out
  -- a pair of two zeros, at any place of a body: 63
  pub zero_pair : (kind : Kind) (bytes : List ℕ) (k : ℕ) → RightFrame bytes → kind_in bytes ≡ kind.number
      → 16 * (k + 1) ≤ length (drop (head_length kind) (drop 6 bytes)) → start_at (head_length kind) k bytes ≡ 0 → second_at (head_length kind) k bytes ≡ 0
      → record_refusal kind bytes ≡ 63
  -- from kind 1 to kind 2 and back, where that was converted and enough is lent: the bytes it began with
  pub one_two_one : (f : ℕ) (bytes out back : List ℕ) (n : ℕ) → f ≤ 18446744073709551615 → AllBelow 256 bytes → to_two f bytes out ≡ Ok n → length bytes ≤ length back
      → let two = take n (to_two_after f bytes out) in
      (to_one two back ≡ Ok (length bytes)) × (to_one_after two back ≡ bytes ++ drop (length bytes) back)
  -- from kind 2 to kind 1 and back, for the file length that it had: likewise
  pub two_one_two : (bytes out back : List ℕ) (n : ℕ) → AllBelow 256 bytes → to_one bytes out ≡ Ok n → length bytes ≤ length back
      → let one = take n (to_one_after bytes out) in
      (to_two (length_in bytes) one back ≡ Ok (length bytes)) × (to_two_after (length_in bytes) one back ≡ bytes ++ drop (length bytes) back)
  -- the reader of kind 1 refuses whatever has kind 2 in its frame, and so what was converted
  pub old_refuses : (bytes ledger : List ℕ) → RightLength ledger → RightFrame bytes → kind_in bytes ≡ 2
      → (read_saved bytes ledger ≡ Err 62) × (read_saved_after bytes ledger ≡ ledger)
  pub old_refuses_converted : (f : ℕ) (bytes out ledger : List ℕ) (n : ℕ) → f ≤ 18446744073709551615 → AllBelow 256 bytes → to_two f bytes out ≡ Ok n → RightLength ledger
      → read_saved (take n (to_two_after f bytes out)) ledger ≡ Err 62
  -- ---- beyond these sentences
  -- 61, 62 and 63 of the record come first in the conversion and, behind 53, in the reader, so what is said of them above is what they answer
  pub first_of_1 : (f : ℕ) (bytes ledger out : List ℕ) → 0 < record_refusal kind_one bytes
      → (number_in (to_two f bytes out) ≡ record_refusal kind_one bytes) × (RightLength ledger → read_refusal kind_one bytes ledger ≡ record_refusal kind_one bytes)
  pub first_of_2 : (bytes ledger out : List ℕ) → 0 < record_refusal kind_two bytes
      → (number_in (to_one bytes out) ≡ record_refusal kind_two bytes) × (RightLength ledger → read_refusal kind_two bytes ledger ≡ record_refusal kind_two bytes)
  -- what was converted is read as before, with the file length
  pub reads_as_before : (f : ℕ) (bytes out ledger : List ℕ) (n : ℕ) → f ≤ 18446744073709551615 → AllBelow 256 bytes → to_two f bytes out ≡ Ok n
      → let two = take n (to_two_after f bytes out) in
      (read_refusal kind_two two ledger ≡ read_refusal kind_one bytes ledger) × (read_sized_after two ledger ≡ read_saved_after bytes ledger) × (length_in two ≡ f)
  -- every record of kind 1 whose ends are within f is converted, of up to 268,435,455 pairs, where enough bytes are lent
  pub any_size : (f : ℕ) (ps : Pairs) (out : List ℕ) → size ps ≤ 268435455 → ObeyFrom 0 ps → f ≤ 18446744073709551615 → ends_at_most f ps ≡ true
      → 14 + 16 * size ps ≤ length out → to_two f (record_of kind_one 0 ps) out ≡ Ok (14 + 16 * size ps)
  -- no pair, for an empty file; and the bytes 0 to 89 of a file of 100, converted from document 01's record
  pub empty : record_of kind_two 0 none ≡ 0x0A ∷ 0 ∷ 0 ∷ 0 ∷ 0x02 ∷ 0 ∷ replicate 8 0
  pub first_ninety : to_two_after 100 (0x12 ∷ 0 ∷ 0 ∷ 0 ∷ 0x01 ∷ 0 ∷ replicate 8 0 ++ (0x5A ∷ replicate 7 0)) (replicate 31 0xEE)
      ≡ 0x1A ∷ 0 ∷ 0 ∷ 0 ∷ 0x02 ∷ 0 ∷ 0x64 ∷ replicate 7 0 ++ (replicate 8 0 ++ (0x5A ∷ replicate 7 0 ++ (0xEE ∷ [])))
