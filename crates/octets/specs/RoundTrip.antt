-- A number that is written is read as the same number, and bytes that are read are written as the same bytes. What is written and what is read are
-- as the contracts of `big`, `little` and `decimal` say.
use Rattle.std.specs.Prelude.{ℕ, ◌^◌, ◌≤◌, ◌<◌, ◌≡◌, true, List, length, take, Some}
use Rattle.octets.specs.Digits.{AllBelow, from_little_endian, from_big_endian, to_little_endian, to_big_endian}
use Rattle.octets.specs.Decimal.{read_of, digit_count, in_digits, no_leading_zero}

pub record RoundTrip : Type 0 where
  -- a number that fits w bytes, at most eight, written in w bytes and read
  pub little_reads_back : (w n : ℕ) → w ≤ 8 → n < 256 ^ w → from_little_endian 256 (take 8 (to_little_endian 256 w n)) ≡ n
  pub big_reads_back : (w n : ℕ) → w ≤ 8 → n < 256 ^ w → from_big_endian 256 (take 8 (to_big_endian 256 w n)) ≡ n
  -- up to eight bytes, read and written in as many bytes
  pub little_writes_back : (bytes : List ℕ) → AllBelow 256 bytes → length bytes ≤ 8 → to_little_endian 256 (length bytes) (from_little_endian 256 (take 8 bytes)) ≡ bytes
  pub big_writes_back : (bytes : List ℕ) → AllBelow 256 bytes → length bytes ≤ 8 → to_big_endian 256 (length bytes) (from_big_endian 256 (take 8 bytes)) ≡ bytes
  -- any number, written in as many digits as it has, has no leading zero, and is read under any limit that it does not pass
  pub decimal_is_plain : (n : ℕ) → no_leading_zero (in_digits (digit_count n) n) ≡ true
  pub decimal_reads_back : (n limit : ℕ) → n ≤ limit → read_of (in_digits (digit_count n) n) limit ≡ Some n
  -- a text without leading zeros, read and written in as many digits as its number has
  pub decimal_writes_back : (text : List ℕ) (n limit : ℕ) → no_leading_zero text ≡ true → read_of text limit ≡ Some n → in_digits (digit_count n) n ≡ text
  -- any text, read and written in as many digits as it has
  pub digits_write_back : (text : List ℕ) (n limit : ℕ) → read_of text limit ≡ Some n → in_digits (length text) n ≡ text
