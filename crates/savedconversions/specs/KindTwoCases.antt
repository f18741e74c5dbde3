-- Cases at the edges of what `KindTwo` says, each led to by the field that says it.
use Rattle.std.specs.Prelude.{ℕ, zero, suc, ◌+◌, ◌≡◌, Ok, Err, List, [], ◌∷◌, length, take, replicate}
use Rattle.answers.specs.Refusal.{number_in}
use Rattle.frames.specs.Frame.{framed}
use Rattle.ledger.specs.Pairs.{Pairs, none, pair}
use Rattle.savedrecords.specs.Kind.{kind_one, kind_two}
use Rattle.savedrecords.specs.Record.{record_refusal, record_of}
use Rattle.savedledgers.specs.Numbers.{number_bytes}
use Rattle.savedledgers.specs.Saved.{read_refusal, read_saved, read_sized_after}
use Rattle.savedconversions.specs.KindTwo.{length_in}
use Rattle.savedconversions.specs.Conversion.{to_two, to_two_after, to_one, to_one_after}

-- a record of this kind whose body is these numbers
abbrev pub framed_numbers : ℕ → List ℕ → List ℕ
framed_numbers kind numbers = framed kind (number_bytes numbers)

-- the largest number of 64 bits
abbrev pub top : ℕ
top = 18446744073709551615

-- one pair, from 0 to there, as kind 1, and as kind 2 for a file of that length
abbrev pub longest_one : List ℕ
longest_one = framed_numbers 1 (0 ∷ top ∷ [])

abbrev pub longest_two : List ℕ
longest_two = take 30 (to_two_after top longest_one (replicate 30 0xEE))

-- n pairs of one byte, every other byte from a on
unfoldable pub singles : ℕ → ℕ → Pairs
singles zero a = none
singles (suc n) a = pair a (a + 1) (singles n (a + 2))

pub record KindTwoCases : Type 0 where
  -- a body of seven bytes
  pub seven_bytes : record_refusal kind_two (framed 2 (replicate 7 0)) ≡ 63
  -- nothing but a zero pair
  pub zero_pair_1 : record_refusal kind_one (framed_numbers 1 (0 ∷ 0 ∷ [])) ≡ 63
  pub zero_pair_2 : record_refusal kind_two (framed_numbers 2 (100 ∷ 0 ∷ 0 ∷ [])) ≡ 63
  -- an end of 2^64, and a pair after it
  pub end_then_pair : record_refusal kind_two (framed_numbers 2 (top ∷ top ∷ 1 ∷ 3 ∷ 4 ∷ [])) ≡ 63
  -- the same end last: read into one pair, and converted
  pub end_last : read_refusal kind_two (framed_numbers 2 (top ∷ top ∷ 1 ∷ [])) (7 ∷ 7 ∷ []) ≡ 65
  pub end_last_back : (out : List ℕ) → number_in (to_one (framed_numbers 2 (top ∷ top ∷ 1 ∷ [])) out) ≡ 65
  -- by 65 the lent entries and bytes stay
  pub reading_65 : read_sized_after (framed_numbers 2 (top ∷ top ∷ 1 ∷ [])) (7 ∷ 7 ∷ []) ≡ 7 ∷ 7 ∷ []
  pub back_65 : (out : List ℕ) → to_one_after (framed_numbers 2 (top ∷ top ∷ 1 ∷ [])) out ≡ out
  pub to_2_65 : (out : List ℕ) → to_two_after 89 (framed_numbers 1 (0 ∷ 90 ∷ [])) out ≡ out
  -- all bytes of the longest file, to kind 2, back, and to kind 2 again, with no byte lent too many
  pub to_2 : to_two top longest_one (replicate 30 0xEE) ≡ Ok 30
  pub and_back : (to_one longest_two (replicate 22 0xEE) ≡ Ok 22) × (to_one_after longest_two (replicate 22 0xEE) ≡ longest_one)
  pub and_again : let one = take 22 (to_one_after longest_two (replicate 22 0xEE)) in
      (to_two (length_in longest_two) one (replicate 30 0xEE) ≡ Ok 30) × (to_two_after (length_in longest_two) one (replicate 30 0xEE) ≡ longest_two)
  -- it is read into one pair, and the old reader refuses it
  pub reads_it : (read_sized_after longest_two (7 ∷ 7 ∷ []) ≡ 0 ∷ top ∷ []) × (length_in longest_two ≡ top)
  pub old_refuses_it : read_saved longest_two (7 ∷ 7 ∷ []) ≡ Err 62
  -- the most pairs that a record of kind 1 can have, and as many bytes as their record of kind 2 has
  pub most_pairs : (out : List ℕ) → length out ≡ 4294967294 → to_two top (record_of kind_one 0 (singles 268435455 0)) out ≡ Ok 4294967294
