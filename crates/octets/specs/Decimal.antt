-- A number in decimal: bytes 48 to 57, the most significant digit first.
use Rattle.std.specs.Prelude.{ℕ, zero, suc, ◌+◌, ◌-◌, ◌/◌, Bool, false, cond, ◌&&◌, not, List, [], ◌∷◌, map, leb, ltb, eqb, length, Option, Some, None}
use Rattle.octets.specs.Digits.{from_big_endian, to_big_endian}
use Rattle.texts.specs.Text.{is_digit, all}

-- what a digit says, and the byte of a digit
abbrev pub digit_value : ℕ → ℕ
digit_value b = b - 48

abbrev pub digit_byte : ℕ → ℕ
digit_byte d = 48 + d

-- the number that a text of digits says, in whole numbers
unfoldable pub decimal_value : List ℕ → ℕ
decimal_value text = from_big_endian 10 (map digit_value text)

-- what reading a whole text answers: its number, where it is one digit or more and says at most the limit
unfoldable pub read_of : List ℕ → ℕ → Option ℕ
read_of text limit = cond (ltb 0 (length text) && (all is_digit text && leb (decimal_value text) limit)) (Some (decimal_value text)) None

-- how many digits n has without leading zeros, 0 having one. The first argument bounds the depth, and n itself is enough.
unfoldable pub digit_count_by : ℕ → ℕ → ℕ
digit_count_by zero n = 1
digit_count_by (suc k) n =
    let more = suc (digit_count_by k (n / 10)) in
    cond (ltb n 10) 1 more

unfoldable pub digit_count : ℕ → ℕ
digit_count n = digit_count_by n n

-- n in exactly w digits: its w low ones, with leading zeros where w is above its width
unfoldable pub in_digits : ℕ → ℕ → List ℕ
in_digits w n = map digit_byte (to_big_endian 10 w n)

-- n without leading zeros
unfoldable pub decimal : ℕ → List ℕ
decimal n = in_digits (digit_count n) n

-- the text is a number without leading zeros: one digit, or more of which the first is not 0
unfoldable pub no_leading_zero : List ℕ → Bool
no_leading_zero [] = false
no_leading_zero (b ∷ []) = is_digit b
no_leading_zero (b ∷ c ∷ rest) = not (eqb b 48) && all is_digit (b ∷ c ∷ rest)
