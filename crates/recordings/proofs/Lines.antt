-- The lines that are no screen lines: how long they can be, and how they are written.
use Prim.Native.Nat.{ℕ, zero, suc, ◌+◌, ◌-◌, ◌≤◌, ◌<◌}
use mathlib.Core.Path.{◌≡◌, refl, sym, ap, ◌∙◌}
use mathlib.Core.List.{List, [], ◌∷◌, ◌++◌}
use native.Mathlib.Omega.{arith}
use native.Mathlib.Nat.{zero-add}
use borrow.Rule.Slice.PartMut.{mid_of, put_mid, mid_len}
use lib.ListN.{length, set, length-append}
use Rattle.octets.specs.Decimal.{digit_count, in_digits, decimal}
use Rattle.octets.proofs.Decimals.{length-decimal}
use Rattle.answers.specs.WritesAt.{WritesAt}
use Rattle.answers.proofs.WritesAt.{writes_at-append, sets-part, sets_first}
use Rattle.copies.specs.Copy.{stored}
use Rattle.copies.proofs.CopiedBytes.{stored-all}
use Rattle.screen.specs.Screen.{line_feed}
use Rattle.screen.proofs.Screen.{length-between, digits-most}
use Rattle.nights.specs.Lines.{record_word, refused_word, left_word, number_line, record_line, left_line}
use Rattle.nights.proofs.Lines.{left-none, left-some}
use Rattle.recordings.specs.Kept.{WritesFront}

-- ---- the words, each with the space that follows it

pub record-words : (k : ℕ) → (82 ∷ 69 ∷ 67 ∷ 79 ∷ 82 ∷ 68 ∷ 32 ∷ []) ++ decimal k ++ line_feed ≡ record_line k
unfolding number_line
record-words k = refl

pub refused-words : (k : ℕ) → (82 ∷ 69 ∷ 70 ∷ 85 ∷ 83 ∷ 69 ∷ 68 ∷ 32 ∷ []) ++ decimal k ++ line_feed ≡ number_line refused_word k
unfolding number_line
refused-words k = refl

pub left-words : (k : ℕ) → (76 ∷ 69 ∷ 70 ∷ 84 ∷ 32 ∷ []) ++ decimal k ++ line_feed ≡ number_line left_word k
unfolding number_line
left-words k = refl

-- ---- how long they are

pub length-number_line : (word : List ℕ) (n : ℕ) → length (number_line word n) ≡ length word + 1 + length (decimal n) + 1
unfolding number_line line_feed
length-number_line word n = simp length-append

pub decimal-short : (n : ℕ) → n < 100000 → length (decimal n) ≤ 5
decimal-short n h = digits-most 4 n h

pub decimal-long : (n : ℕ) → n ≤ 18446744073709551615 → length (decimal n) ≤ 20
decimal-long n h = digits-most 19 n (omega arith)

pub record-short : (k : ℕ) → k ≤ 18446744073709551615 → length (record_line k) ≤ 28
record-short k h = omega (arith, length-number_line record_word k, decimal-long k h)

pub left-short : (n : ℕ) → n ≤ 16384 → length (left_line n) ≤ 11
left-short zero h = omega (arith, ap length (left-none 0 refl))
left-short (suc n) h = omega (arith, ap length (left-some (suc n) (omega arith)), length-number_line left_word (suc n), decimal-short (suc n) (omega arith))

-- ---- written

-- a word at the front, as it is copied
pub word-stored : (word out after : List ℕ) → length word ≤ length out → after ≡ stored 0 (length word) word out → WritesAt out 0 word (length word) after
word-stored word out after h s =
    let z = zero-add (length word) in
    (sym z, s ∙ stored-all 0 (length word) word out refl (omega arith) ∙ rw z (sym (sets_first word out h)))

-- ys, in the part of the lent bytes that ends at `end`, has as many digits of n as the part has bytes
pub number-written : (out ys : List ℕ) (at n end : ℕ) → end ≡ at + digit_count n → end ≤ length out → ys ≡ in_digits (length (mid_of at (end - at) out)) n
    → WritesAt out at (decimal n) end (put_mid at (end - at) out ys)
unfolding decimal
number-written out ys at n end e h d =
    let l = length-decimal n in
    let k : length (mid_of at (end - at) out) ≡ digit_count n = mid_len at end out h ∙ omega arith in
    let y : ys ≡ decimal n = d ∙ ap (λ (k : ℕ). in_digits k n) k in
    (omega (arith, l), rw y (sets-part at end out (decimal n) (omega (arith, l)) h))

pub writes-front : (out text after : List ℕ) (end : ℕ) → length text ≤ length out → WritesAt out 0 text end after → WritesFront text out end after
writes-front out text after end h w = (w.0 ∙ zero-add (length text), w.1 ∙ sets_first text out h)

-- a word, digits and LF, one after another
pub line_written : (out o₁ o₂ word : List ℕ) (n at end : ℕ) → at + length (decimal n) + 1 ≤ length out → WritesAt out 0 word at o₁ → WritesAt o₁ at (decimal n) end o₂
    → WritesFront (word ++ decimal n ++ line_feed) out (end + 1) (set o₂ end 10)
unfolding line_feed
line_written out o₁ o₂ word n at end h w d =
    let t = word ++ decimal n in
    writes-front out (t ++ line_feed) (set o₂ end 10) (end + 1) (omega (arith, length-between word (decimal n) line_feed))
    (writes_at-append out o₂ (set o₂ end 10) t line_feed 0 end (end + 1) (writes_at-append out o₁ o₂ word (decimal n) 0 at end w d) (refl, refl))
