-- What the readers of numbers answer, case by case: bytes in both orders, and decimal digits.
use Rattle.std.specs.Prelude.{ℕ, ◌+◌, ◌*◌, ◌-◌, ◌≤◌, ◌<◌, ◌≡◌, ◌⊎◌, List, [], ◌∷◌, ◌++◌, length, get_or, Some, None}
use Rattle.octets.specs.Digits.{from_little_endian, from_big_endian}
use Rattle.octets.specs.Decimal.{decimal_value, read_of}
use Rattle.texts.specs.Text.{is_digit, leading_count}

pub record Reading : Type 0 where
  -- bytes, the most significant first: a byte more at the end
  pub big_none : from_big_endian 256 [] ≡ 0
  pub big_more : (bytes : List ℕ) (b : ℕ) → from_big_endian 256 (bytes ++ (b ∷ [])) ≡ from_big_endian 256 bytes * 256 + b
  -- bytes, the least significant first: a byte more in front
  pub little_none : from_little_endian 256 [] ≡ 0
  pub little_more : (bytes : List ℕ) (b : ℕ) → from_little_endian 256 (b ∷ bytes) ≡ from_little_endian 256 bytes * 256 + b
  -- the number that decimal digits say: a digit more at the end
  pub digits_none : decimal_value [] ≡ 0
  pub digits_more : (text : List ℕ) (b : ℕ) → decimal_value (text ++ (b ∷ [])) ≡ decimal_value text * 10 + (b - 48)
  -- a text of one digit or more, each from 48 to 57, that says at most the limit is read
  pub value : (text : List ℕ) (limit : ℕ) → 0 < length text → ((i : ℕ) → i < length text → (48 ≤ get_or text i 0) × (get_or text i 0 ≤ 57))
      → decimal_value text ≤ limit → read_of text limit ≡ Some (decimal_value text)
  -- nothing is read where there is no byte, where one is no digit, and where the text says more than the limit
  pub no_byte : (limit : ℕ) → read_of [] limit ≡ None
  pub no_digit : (text : List ℕ) (limit i : ℕ) → i < length text → (get_or text i 0 < 48) ⊎ (57 < get_or text i 0) → read_of text limit ≡ None
  pub above_limit : (text : List ℕ) (limit : ℕ) → limit < decimal_value text → read_of text limit ≡ None
  -- the digits that a text begins with: those before its first byte that is none, or all
  pub run_fits : (text : List ℕ) → leading_count is_digit text ≤ length text
  pub run_digits : (text : List ℕ) (i : ℕ) → i < leading_count is_digit text → (48 ≤ get_or text i 0) × (get_or text i 0 ≤ 57)
  pub run_stops : (text : List ℕ) → leading_count is_digit text < length text → (get_or text (leading_count is_digit text) 0 < 48) ⊎ (57 < get_or text (leading_count is_digit text) 0)
