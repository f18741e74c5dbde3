-- `RoundTrip` holds: the laws over the base, the width and the text, at the bases 256 and 10, for what the readers answer.
use Prim.Native.Nat.{ℕ, ◌^◌, ◌≤◌, ◌<◌}
use mathlib.Core.Path.{◌≡◌, ap, ◌∙◌}
use mathlib.Core.Bool.{true}
use mathlib.Core.List.{List}
use native.Mathlib.Omega.{arith}
use Rattle.std.specs.Prelude.{Some}
use lib.ListN.{length, take}
use lib.Seq.{take_all}
use Rattle.octets.specs.Digits.{from_little_endian, from_big_endian, to_little_endian, to_big_endian}
use Rattle.octets.specs.Decimal.{read_of, digit_count, in_digits, decimal, no_leading_zero}
use Rattle.octets.specs.RoundTrip.{RoundTrip}
use Rattle.octets.proofs.Digits
use Rattle.octets.proofs.Digits.{length-to_little, length-to_big}
use Rattle.octets.proofs.Decimals
use Rattle.octets.proofs.Decimals.{decimal_is_plain, all-in_digits, in_digits-reads-back, in_digits-writes-back, length-in_digits, width_fits, width_some}
use Rattle.octets.proofs.Reading.{read_of-value, read_of-read}

-- ---- bytes: eight at most are all read

little-back : (w n : ℕ) → w ≤ 8 → n < 256 ^ w → from_little_endian 256 (take 8 (to_little_endian 256 w n)) ≡ n
little-back w n h l =
    rw (take_all 8 (to_little_endian 256 w n) (omega (arith, length-to_little 256 w n))) (Digits.little_reads_back 256 w n (omega arith) l)

big-back : (w n : ℕ) → w ≤ 8 → n < 256 ^ w → from_big_endian 256 (take 8 (to_big_endian 256 w n)) ≡ n
big-back w n h l = rw (take_all 8 (to_big_endian 256 w n) (omega (arith, length-to_big 256 w n))) (Digits.big_reads_back 256 w n (omega arith) l)

-- ---- decimal

decimal-back : (n limit : ℕ) → n ≤ limit → read_of (in_digits (digit_count n) n) limit ≡ Some n
decimal-back n limit h =
    let w = digit_count n in
    let e = in_digits-reads-back w n (width_fits n) in
    read_of-value (in_digits w n) limit (omega (arith, length-in_digits w n, width_some n)) (all-in_digits w n) (omega (arith, e)) ∙ ap Some e

digits-back : (text : List ℕ) (n limit : ℕ) → read_of text limit ≡ Some n → in_digits (length text) n ≡ text
digits-back text n limit h =
    let r = read_of-read text n limit h in
    rw (← r.says) (in_digits-writes-back text r.digits)

plain_back : (text : List ℕ) (n limit : ℕ) → no_leading_zero text ≡ true → read_of text limit ≡ Some n → in_digits (digit_count n) n ≡ text
unfolding decimal
plain_back text n limit p h = rw (← (read_of-read text n limit h).says) (Decimals.decimal_writes_back text p)

pub round_trip : RoundTrip
unfolding decimal
round_trip =
    record {
      little_reads_back = little-back;
      big_reads_back = big-back;
      little_writes_back = λ bytes b h. rw (take_all 8 bytes h) (Digits.little_writes_back 256 bytes b);
      big_writes_back = λ bytes b h. rw (take_all 8 bytes h) (Digits.big_writes_back 256 bytes b);
      decimal_is_plain = decimal_is_plain;
      decimal_reads_back = decimal-back;
      decimal_writes_back = plain_back;
      digits_write_back = digits-back;
    }
