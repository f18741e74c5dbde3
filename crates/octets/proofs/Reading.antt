-- `Reading` holds: what the readers of numbers answer, and what follows from a number that was read.
use Prim.Native.Nat.{ℕ, ◌+◌, ◌*◌, ◌-◌, ◌≤◌, ◌<◌}
use mathlib.Core.Path.{◌≡◌, refl}
use mathlib.Core.Bool.{Bool, true, false, cond, ◌&&◌, and-false}
use mathlib.Core.List.{List, [], ◌∷◌, ◌++◌, map, map-append}
use native.Mathlib.Omega.{arith}
use Rattle.std.specs.Prelude.{Some, None}
use borrow.Author.Tests.{lt-ltb, le-leb, lt-leb, ltb-true}
use lib.Dec.{leb, ltb}
use lib.ListN.{length, get_or}
use Rattle.octets.specs.Digits.{from_big_endian, from_little_endian}
use Rattle.octets.specs.Decimal.{digit_value, decimal_value, read_of}
use Rattle.texts.specs.Text.{is_digit, all, leading_count}
use Rattle.octets.specs.Reading.{Reading}
use Rattle.octets.proofs.Digits.{from_big-snoc, from_little-cons}
use Rattle.texts.proofs.Texts.{between-true, between-false, true-between, false-between, each_all, all-each, all-not, leading_le, leading-each, after-leading}

-- ---- what a text reads as

pub read_of-spoilt : (text : List ℕ) (limit : ℕ) → all is_digit text ≡ false → read_of text limit ≡ None
unfolding read_of
read_of-spoilt text limit e = rw (e, and-false (ltb 0 (length text)))

pub read_of-above : (text : List ℕ) (limit : ℕ) → leb (decimal_value text) limit ≡ false → read_of text limit ≡ None
unfolding read_of
read_of-above text limit e = rw (e, and-false (all is_digit text), and-false (ltb 0 (length text)))

pub read_of-value : (text : List ℕ) (limit : ℕ) → 0 < length text → all is_digit text ≡ true → decimal_value text ≤ limit → read_of text limit ≡ Some (decimal_value text)
unfolding read_of
read_of-value text limit h d l = rw (lt-ltb 0 (length text) h, d, le-leb (decimal_value text) limit l)

-- ---- what was read

-- a text that reads as n is digits, one or more, that say n
pub record Read (text : List ℕ) (n : ℕ) : Type 0 where
  pub some : 0 < length text
  pub digits : all is_digit text ≡ true
  pub says : decimal_value text ≡ n

pub read_of-read : (text : List ℕ) (n limit : ℕ) → read_of text limit ≡ Some n → Read text n
unfolding read_of
read_of-read text n limit h = go (ltb 0 (length text)) (all is_digit text) (leb (decimal_value text) limit) refl refl h
  where
    go : (s d l : Bool) → ltb 0 (length text) ≡ s → all is_digit text ≡ d → cond (s && (d && l)) (Some (decimal_value text)) None ≡ Some n → Read text n
    go true true true s d e = record { some = ltb-true 0 (length text) s; digits = d; says = cc }
    go true true false s d e = let z : ◌≡◌ {A = ℕ} 0 1 = cc in absurd (omega arith)
    go true false l s d e = let z : ◌≡◌ {A = ℕ} 0 1 = cc in absurd (omega arith)
    go false d l s e k = let z : ◌≡◌ {A = ℕ} 0 1 = cc in absurd (omega arith)

-- ---- the digits that a text has, and those that it begins with

abbrev Digit : ℕ → Type 0
Digit b = (48 ≤ b) × (b ≤ 57)

pub digits-at : (text : List ℕ) → ((i : ℕ) → i < length text → Digit (get_or text i 0)) → all is_digit text ≡ true
digits-at text h = each_all is_digit text (λ i l. between-true 48 57 (get_or text i 0) (h i l).0 (h i l).1)

pub at-digits : (text : List ℕ) → all is_digit text ≡ true → (i : ℕ) → i < length text → Digit (get_or text i 0)
at-digits text h i l = true-between 48 57 (get_or text i 0) (all-each is_digit text h i l)

digits_more : (text : List ℕ) (b : ℕ) → decimal_value (text ++ (b ∷ [])) ≡ decimal_value text * 10 + (b - 48)
unfolding decimal_value
digits_more text b = rw (map-append digit_value text (b ∷ [])) (from_big-snoc 10 (digit_value b) (map digit_value text))

pub reading : Reading
unfolding from_big_endian from_little_endian decimal_value read_of
reading =
    record {
      big_none = refl;
      big_more = λ bytes b. from_big-snoc 256 b bytes;
      little_none = refl;
      little_more = λ bytes b. from_little-cons 256 b bytes;
      digits_none = refl;
      digits_more = digits_more;
      value = λ text limit h d. read_of-value text limit h (digits-at text d);
      no_byte = λ limit. refl;
      no_digit = λ text limit i h o. read_of-spoilt text limit (all-not is_digit text i h (between-false 48 57 (get_or text i 0) o));
      above_limit = λ text limit h. read_of-above text limit (lt-leb (decimal_value text) limit h);
      run_fits = leading_le is_digit;
      run_digits = λ text i h. true-between 48 57 (get_or text i 0) (leading-each is_digit text i h);
      run_stops = λ text h. false-between 48 57 (get_or text (leading_count is_digit text) 0) (after-leading is_digit text h);
    }
