-- The laws of decimal text: how many digits a number has, and that reading and writing undo each other.
use Prim.Native.Nat.{ℕ, zero, suc, ◌+◌, ◌*◌, ◌/◌, ◌%◌, ◌^◌, ◌≤◌, ◌<◌, max}
use mathlib.Core.Path.{◌≡◌, refl, sym, ap, ◌∙◌}
use mathlib.Core.Bool.{Bool, true, false, ◌&&◌, not, and-eq-true_iff, and-true, false≢true}
use mathlib.Core.Logic.{◌⊎◌, inl, inr}
use mathlib.Core.List.{List, [], ◌∷◌, ◌++◌, map, map-append}
use native.Mathlib.Omega.{arith}
use native.Mathlib.Numerals.{add-one}
use native.Mathlib.Nat.{pow-suc, one-le-pow, le_refl, mod-eq_of_lt}
use native.Mathlib.Decide.{dec_lt}
use borrow.Author.Tests.{lt-ltb, le-ltb, lt-leb, eq-eqb, ne_eqb, eqb-false, not-true}
use lib.Dec.{leb, ltb, eqb}
use lib.ListN.{length, get_or, take, drop, length-map, take-append-drop}
use lib.Seq.{take-suc}
use Rattle.octets.specs.Digits.{AllBelow, from_big_endian, to_big_endian, to_little_endian}
use Rattle.octets.specs.Decimal.{decimal_value, digit_count_by, digit_count, in_digits, decimal, no_leading_zero, digit_value, digit_byte}
use Rattle.texts.specs.Text.{is_digit, all}
use Rattle.texts.proofs.Texts.{between-true, true-between, all_append}
use Rattle.octets.proofs.Digits.{length-to_big, from_big-snoc, from_big-grows, from_big-lt, from_big-first, to_big-suc, below-to_big, big_reads_back, big_writes_back}

-- ---- how many digits

width_by-small : (k n : ℕ) → n < 10 → digit_count_by k n ≡ 1
unfolding digit_count_by
width_by-small zero n h = refl
width_by-small (suc k) n h = rw (lt-ltb n 10 h)

width_by-step : (k n : ℕ) → 10 ≤ n → digit_count_by (suc k) n ≡ suc (digit_count_by k (n / 10))
unfolding digit_count_by
width_by-step k n h = rw (le-ltb n 10 h)

-- any bound that is deep enough gives the same
width_by-enough : (k j n : ℕ) → n ≤ k → n ≤ j → digit_count_by k n ≡ digit_count_by j n
width_by-enough zero j n hk hj = width_by-small zero n (omega arith) ∙ sym (width_by-small j n (omega arith))
width_by-enough (suc k) zero n hk hj = width_by-small (suc k) n (omega arith) ∙ sym (width_by-small zero n (omega arith))
width_by-enough (suc k) (suc j) n hk hj = go (dec_lt n 10) (width_by-enough k j (n / 10))
  where
    go : Dec (n < 10) → (n / 10 ≤ k → n / 10 ≤ j → digit_count_by k (n / 10) ≡ digit_count_by j (n / 10)) → digit_count_by (suc k) n ≡ digit_count_by (suc j) n
    go (yes h) ih = width_by-small (suc k) n h ∙ sym (width_by-small (suc j) n h)
    go (no h) ih = width_by-step k n (omega arith) ∙ ap suc (ih (omega arith) (omega arith)) ∙ sym (width_by-step j n (omega arith))

pub width_small : (n : ℕ) → n < 10 → digit_count n ≡ 1
unfolding digit_count
width_small n h = width_by-small n n h

pub width-step : (n : ℕ) → 10 ≤ n → digit_count n ≡ suc (digit_count (n / 10))
unfolding digit_count
width-step zero h = absurd (omega arith)
width-step (suc n) h = width_by-step n (suc n) h ∙ ap suc (width_by-enough n (suc n / 10) (suc n / 10) (omega arith) (omega arith))

-- the number of digits is the one with 10 ^ (w - 1) ≤ n < 10 ^ w, one digit standing for every n below 10
pub width_is : (w n : ℕ) → n < 10 ^ suc w → (w ≡ 0) ⊎ (10 ^ w ≤ n) → digit_count n ≡ suc w
width_is zero n h g = width_small n h
width_is (suc w) n h (inl e) = absurd (omega arith)
width_is (suc w) n h (inr g) =
    let p : 10 ^ suc (suc w) ≡ 10 ^ suc w * 10 = pow-suc 10 (suc w) in
    let q : 10 ^ suc w ≡ 10 ^ w * 10 = pow-suc 10 w in
    let one : 1 ≤ 10 ^ w = one-le-pow w 10 (omega arith) in
    width-step n (omega arith) ∙ ap suc (width_is w (n / 10) (omega arith) (inr (omega arith)))

-- by the logarithm
pub width_of_log : (n k : ℕ) → 10 ^ k ≤ n → n < 10 * 10 ^ k → digit_count n ≡ k + 1
width_of_log n zero h g = width_small n (omega arith)
width_of_log n (suc k) h g =
    let p : 10 ^ suc k ≡ 10 ^ k * 10 = pow-suc 10 k in
    let q : 10 ^ suc (suc k) ≡ 10 ^ suc k * 10 = pow-suc 10 (suc k) in
    let one : 1 ≤ 10 ^ k = one-le-pow k 10 (omega arith) in
    width_is (suc k) n (omega arith) (inr (omega arith)) ∙ sym (add-one (suc k))

pub width_fits : (n : ℕ) → n < 10 ^ digit_count n
width_fits n = by-depth n n (le_refl n)
  where
    by-depth : (k n : ℕ) → n ≤ k → n < 10 ^ digit_count n
    by-depth zero n h = rw (width_small n (omega arith)) (omega arith)
    by-depth (suc k) n h = go (dec_lt n 10) (by-depth k (n / 10))
      where
        go : Dec (n < 10) → (n / 10 ≤ k → n / 10 < 10 ^ digit_count (n / 10)) → n < 10 ^ digit_count n
        go (yes l) ih = rw (width_small n l) l
        go (no l) ih = rw (width-step n (omega arith), pow-suc 10 (digit_count (n / 10))) (omega (arith, ih (omega arith)))

pub width_some : (n : ℕ) → 1 ≤ digit_count n
width_some n = go (dec_lt n 10)
  where
    go : Dec (n < 10) → 1 ≤ digit_count n
    go (yes h) = omega (arith, width_small n h)
    go (no h) = omega (arith, width-step n (omega arith))

pub width-le : (w n : ℕ) → n < 10 ^ suc w → digit_count n ≤ suc w
width-le zero n h = omega (arith, width_small n h)
width-le (suc w) n h = go (dec_lt n (10 ^ suc w)) (width-le w n)
  where
    go : Dec (n < 10 ^ suc w) → (n < 10 ^ suc w → digit_count n ≤ suc w) → digit_count n ≤ suc (suc w)
    go (yes l) ih = omega (arith, ih l)
    go (no l) ih = omega (arith, width_is (suc w) n h (inr (omega arith)))

-- a 64-bit number has at most 20 digits
pub width-20 : (n : ℕ) → n < 18446744073709551616 → digit_count n ≤ 20
width-20 n h = width-le 19 n (omega arith)

pub length-in_digits : (w n : ℕ) → length (in_digits w n) ≡ w
unfolding in_digits
length-in_digits w n = length-map (to_big_endian 10 w n) digit_byte ∙ length-to_big 10 w n

pub length-decimal : (n : ℕ) → length (decimal n) ≡ digit_count n
unfolding decimal
length-decimal n = length-in_digits (digit_count n) n

-- ---- one digit more

pub in_digits-suc : (w n : ℕ) → in_digits (suc w) n ≡ in_digits w (n / 10) ++ (digit_byte (n % 10) ∷ [])
unfolding in_digits
in_digits-suc w n = rw (to_big-suc 10 w n) (map-append digit_byte (to_big_endian 10 w (n / 10)) (n % 10 ∷ []))

pub decimal-small : (n : ℕ) → n < 10 → decimal n ≡ digit_byte n ∷ []
unfolding decimal in_digits to_big_endian to_little_endian
decimal-small n h = rw (width_small n h, mod-eq_of_lt h)

pub decimal_step : (n : ℕ) → 10 ≤ n → decimal n ≡ decimal (n / 10) ++ (digit_byte (n % 10) ∷ [])
unfolding decimal
decimal_step n h = rw (width-step n h) (in_digits-suc (digit_count (n / 10)) n)

pub number_of-more : (text : List ℕ) (i : ℕ) → i < length text → decimal_value (take (i + 1) text) ≡ decimal_value (take i text) * 10 + digit_value (get_or text i 0)
unfolding decimal_value
number_of-more text i h =
    rw (add-one i, take-suc text i 0, map-append digit_value (take i text) (get_or text i 0 ∷ []))
    (from_big-snoc 10 (digit_value (get_or text i 0)) (map digit_value (take i text)))

-- ---- a text of digits

digit-byte : (d : ℕ) → d < 10 → is_digit (digit_byte d) ≡ true
digit-byte d h = between-true 48 57 (digit_byte d) (omega arith) (omega arith)

digits-bytes : (ds : List ℕ) → AllBelow 10 ds → all is_digit (map digit_byte ds) ≡ true
unfolding all
digits-bytes [] h = refl
digits-bytes (d ∷ ds) h = rw (digit-byte d h.0, digits-bytes ds h.1)

pub all-in_digits : (w n : ℕ) → all is_digit (in_digits w n) ≡ true
unfolding in_digits
all-in_digits w n = digits-bytes (to_big_endian 10 w n) (below-to_big 10 w n (omega arith))

values-below : (text : List ℕ) → all is_digit text ≡ true → AllBelow 10 (map digit_value text)
unfolding all
values-below [] h = tt
values-below (b ∷ bs) h =
    let p = (and-eq-true_iff (is_digit b) (all is_digit bs)).0 h in
    (omega (arith, true-between 48 57 b p.0), values-below bs p.1)

-- ---- reading a text from its front

-- a first part that says more than the limit settles it
pub number_of-above : (text : List ℕ) (i limit : ℕ) → limit < decimal_value (take i text) → leb (decimal_value text) limit ≡ false
unfolding decimal_value
number_of-above text i limit h =
    let g = from_big-grows 10 (map digit_value (take i text)) (map digit_value (drop i text)) (omega arith) in
    let w : from_big_endian 10 (map digit_value (take i text)) ≤ from_big_endian 10 (map digit_value text) =
    rw (← map-append digit_value (take i text) (drop i text), take-append-drop i text) at g in
    lt-leb (from_big_endian 10 (map digit_value text)) limit (omega arith)

-- ---- there and back

values-of-bytes : (ds : List ℕ) → map digit_value (map digit_byte ds) ≡ ds
values-of-bytes [] = refl
values-of-bytes (d ∷ ds) =
    let e : digit_value (digit_byte d) ≡ d = omega arith in
    rw (e, values-of-bytes ds)

bytes-of-values : (text : List ℕ) → all is_digit text ≡ true → map digit_byte (map digit_value text) ≡ text
unfolding all
bytes-of-values [] h = refl
bytes-of-values (b ∷ bs) h =
    let p = (and-eq-true_iff (is_digit b) (all is_digit bs)).0 h in
    let e : digit_byte (digit_value b) ≡ b = omega (arith, true-between 48 57 b p.0) in
    rw (e, bytes-of-values bs p.1)

-- written in enough digits, leading zeros or not, it reads back
pub in_digits-reads-back : (w n : ℕ) → n < 10 ^ w → decimal_value (in_digits w n) ≡ n
unfolding decimal_value in_digits
in_digits-reads-back w n h = rw (values-of-bytes (to_big_endian 10 w n)) (big_reads_back 10 w n (omega arith) h)

pub decimal_reads_back : (n : ℕ) → decimal_value (decimal n) ≡ n
unfolding decimal
decimal_reads_back n = in_digits-reads-back (digit_count n) n (width_fits n)

-- a text of digits is a number in as many digits as it has
pub in_digits-writes-back : (text : List ℕ) → all is_digit text ≡ true → in_digits (length text) (decimal_value text) ≡ text
unfolding decimal_value in_digits
in_digits-writes-back text h =
    rw (← length-map text digit_value) (ap (map digit_byte) (big_writes_back 10 (map digit_value text) (values-below text h)) ∙ bytes-of-values text h)

pub number_of-lt : (text : List ℕ) → all is_digit text ≡ true → decimal_value text < 10 ^ length text
unfolding decimal_value
number_of-lt text h = rw (length-map text digit_value) at (from_big-lt 10 (map digit_value text) (values-below text h))

-- the digits of a text without leading zeros are those of its number
plain-digits : (text : List ℕ) → no_leading_zero text ≡ true → all is_digit text ≡ true
unfolding no_leading_zero all
plain-digits [] h = refl
plain-digits (b ∷ []) h = rw h
plain-digits (b ∷ c ∷ rest) h = ((and-eq-true_iff (not (eqb b 48)) (all is_digit (b ∷ c ∷ rest))).0 h).1

first_above : (b : ℕ) (bs : List ℕ) → not (eqb b 48) && all is_digit (b ∷ bs) ≡ true → 0 < digit_value b
unfolding all
first_above b bs h =
    let p = (and-eq-true_iff (not (eqb b 48)) (all is_digit (b ∷ bs))).0 h in
    let q = (and-eq-true_iff (is_digit b) (all is_digit bs)).0 p.1 in
    let ne : ¬ (b ≡ 48) = eqb-false b 48 (not-true (eqb b 48) p.0) in
    omega (arith, true-between 48 57 b q.0)

plain-width : (text : List ℕ) → no_leading_zero text ≡ true → digit_count (decimal_value text) ≡ length text
unfolding no_leading_zero decimal_value
plain-width [] h = absurd (false≢true h)
plain-width (b ∷ []) h = width_is 0 (decimal_value (b ∷ [])) (number_of-lt (b ∷ []) (plain-digits (b ∷ []) h)) (inl refl)
plain-width (b ∷ c ∷ rest) h =
    let text = b ∷ c ∷ rest in
    let first = from_big-first 10 (digit_value b) (map digit_value (c ∷ rest)) (first_above b (c ∷ rest) h) in
    width_is (length (c ∷ rest)) (decimal_value text) (number_of-lt text (plain-digits text h)) (inr (rw (length-map rest digit_value) at first))

pub decimal_writes_back : (text : List ℕ) → no_leading_zero text ≡ true → decimal (decimal_value text) ≡ text
unfolding decimal
decimal_writes_back text h = rw (plain-width text h) (in_digits-writes-back text (plain-digits text h))

-- ---- no leading zero

-- a text of digits whose first is not 0
leads : List ℕ → Bool
leads [] = false
leads (b ∷ bs) = not (eqb b 48) && all is_digit (b ∷ bs)

leads-more : (text : List ℕ) (d : ℕ) → d < 10 → leads text ≡ true → leads (text ++ (digit_byte d ∷ [])) ≡ true
unfolding leads all
leads-more [] d h e = absurd (false≢true e)
leads-more (b ∷ bs) d h e =
    let p = (and-eq-true_iff (not (eqb b 48)) (all is_digit (b ∷ bs))).0 e in
    rw (p.0, all_append is_digit bs (digit_byte d ∷ []), digit-byte d h, and-true (all is_digit bs)) p.1

leads-plain : (text : List ℕ) → leads text ≡ true → no_leading_zero text ≡ true
unfolding leads no_leading_zero all
leads-plain [] h = h
leads-plain (b ∷ []) h = ((and-eq-true_iff (is_digit b) true).0 ((and-eq-true_iff (not (eqb b 48)) (is_digit b && true)).0 h).1).0
leads-plain (b ∷ c ∷ rest) h = h

leads-small : (n : ℕ) → n < 10 → 0 < n → leads (decimal n) ≡ true
unfolding leads all
leads-small n h g = rw (decimal-small n h, ne_eqb (digit_byte n) 48 (omega arith), digit-byte n h)

decimal-leads : (k n : ℕ) → n ≤ k → 0 < n → leads (decimal n) ≡ true
decimal-leads zero n h g = absurd (omega arith)
decimal-leads (suc k) n h g = go (dec_lt n 10) (decimal-leads k (n / 10))
  where
    go : Dec (n < 10) → (n / 10 ≤ k → 0 < n / 10 → leads (decimal (n / 10)) ≡ true) → leads (decimal n) ≡ true
    go (yes l) ih = leads-small n l g
    go (no l) ih =
        rw (decimal_step n (omega arith)) (leads-more (decimal (n / 10)) (n % 10) (omega arith) (ih (omega arith) (omega arith)))

pub decimal_is_plain : (n : ℕ) → no_leading_zero (decimal n) ≡ true
unfolding no_leading_zero
decimal_is_plain zero = rw (decimal-small 0 (omega arith))
decimal_is_plain (suc n) = leads-plain (decimal (suc n)) (decimal-leads (suc n) (suc n) (le_refl (suc n)) (omega arith))

-- ---- no leading zero, by a text's length and its first byte

-- two digits or more of which the first is 0
pub leading-zero : (text : List ℕ) → 2 ≤ length text → get_or text 0 0 ≡ 48 → no_leading_zero text ≡ false
unfolding no_leading_zero
leading-zero [] h e = refl
leading-zero (b ∷ []) h e = absurd (omega arith)
leading-zero (b ∷ c ∷ rest) h e = rw (eq-eqb b 48 e)

-- digits that are no such text are a number without leading zeros, where there is one
pub plain-unless : (text : List ℕ) → all is_digit text ≡ true → (2 ≤ length text → get_or text 0 0 ≡ 48 → ⊥) → no_leading_zero text ≡ ltb 0 (length text)
unfolding no_leading_zero all
plain-unless [] h g = refl
plain-unless (b ∷ []) h g = ((and-eq-true_iff (is_digit b) true).0 h).0
plain-unless (b ∷ c ∷ rest) h g = rw (ne_eqb b 48 (g (omega arith)), lt-ltb 0 (length (b ∷ c ∷ rest)) (omega arith)) h

pub plain-some : (text : List ℕ) → no_leading_zero text ≡ true → 1 ≤ length text
unfolding no_leading_zero
plain-some [] h = absurd (false≢true h)
plain-some (b ∷ rest) h = omega arith

pub plain-first : (text : List ℕ) → no_leading_zero text ≡ true → 2 ≤ length text → get_or text 0 0 ≡ 48 → ⊥
plain-first text h g e = false≢true (sym (leading-zero text g e) ∙ h)
