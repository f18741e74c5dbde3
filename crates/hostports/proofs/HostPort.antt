-- One number of a host-port, and six of them: what is parsed, case by case, and that six fit 64 bits.
use Prim.Native.Nat.{ℕ, suc, ◌+◌, ◌*◌, ◌%◌, ◌^◌, ◌≤◌, ◌<◌}
use Rattle.std.specs.Prelude.{Option, Some, None}
use mathlib.Core.Path.{◌≡◌, refl, sym, ap, ◌∙◌}
use mathlib.Core.Bool.{Bool, true, false, cond, ◌&&◌, and-false}
use mathlib.Core.List.{List}
use native.Mathlib.Omega.{arith}
use native.Mathlib.Numerals.{add-one}
use native.Mathlib.Nat.{pow-suc, pow-le-pow_right}
use borrow.Author.Tests.{le-leb, lt-leb, eq-eqb, ne_eqb}
use lib.Dec.{leb, ltb}
use lib.ListN.{length, get_or, take, drop, drop_of_length-le}
use lib.Seq.{length-take-le, get_or-take}
use Rattle.octets.specs.Decimal.{decimal_value, no_leading_zero, read_of}
use Rattle.texts.specs.Text.{is_digit, leading_count}
use Rattle.texts.proofs.Texts.{leading_le, all-leading}
use Rattle.octets.proofs.Decimals.{leading-zero, plain-unless}
use Rattle.hostports.specs.declared.host_port.Parsed.{Parsed}
use Rattle.hostports.specs.HostPort.{read_as, comma, digit_limit, value_limit, number_at, and_then, more_at, port_of, refuse_port_zero, host_port_at}

-- ---- one number

-- the digits at a place
abbrev pub digits_at : List ℕ → ℕ → List ℕ
digits_at text at = take (leading_count is_digit (drop at text)) (drop at text)

pub length_digits : (text : List ℕ) (at : ℕ) → length (digits_at text at) ≡ leading_count is_digit (drop at text)
length_digits text at = length-take-le (leading_count is_digit (drop at text)) (drop at text) (leading_le is_digit (drop at text))

-- the first of them is the first byte there
first-digit : (text : List ℕ) (at : ℕ) → 1 < leading_count is_digit (drop at text) → get_or (digits_at text at) 0 0 ≡ get_or (drop at text) 0 0
first-digit text at h = get_or-take (leading_count is_digit (drop at text)) (drop at text) 0 0 (omega arith)

pub number_past : (text : List ℕ) (at : ℕ) → length text ≤ at → number_at text at ≡ None
unfolding number_at leading_count no_leading_zero
number_past text at h = rw (drop_of_length-le text h)

pub number-zero : (text : List ℕ) (at : ℕ) → 1 < leading_count is_digit (drop at text) → get_or (drop at text) 0 0 ≡ 48 → number_at text at ≡ None
unfolding number_at
number-zero text at h e = rw (leading-zero (digits_at text at) (omega (arith, length_digits text at)) (first-digit text at h ∙ e))

pub number-long : (text : List ℕ) (at : ℕ) → digit_limit < leading_count is_digit (drop at text) → number_at text at ≡ None
unfolding number_at
number-long text at h = rw (lt-leb (leading_count is_digit (drop at text)) digit_limit h, and-false (no_leading_zero (digits_at text at)))

-- what reading digits answers, with the place after them
abbrev pub parsed_of : ℕ → Option ℕ → Option Parsed
parsed_of next (Some n) = read_as n next
parsed_of next None = None

pub number_short : (text : List ℕ) (at : ℕ) → let k = leading_count is_digit (drop at text) in k ≤ digit_limit → (1 < k → get_or (drop at text) 0 0 ≡ 48 → ⊥)
    → number_at text at ≡ parsed_of (at + k) (read_of (take k (drop at text)) value_limit)
unfolding number_at read_of
number_short text at h g =
    rw (le-leb k digit_limit h, plain-unless digits (all-leading is_digit (drop at text)) plain, all-leading is_digit (drop at text)) (go (ltb 0 (length digits) && leb n value_limit))
  where
    k : ℕ
    k = leading_count is_digit (drop at text)

    digits : List ℕ
    digits = digits_at text at

    n : ℕ
    n = decimal_value digits

    plain : 2 ≤ length digits → get_or digits 0 0 ≡ 48 → ⊥
    plain two e =
        let more : 1 < k = omega (arith, length_digits text at) in
        g more (sym (first-digit text at more) ∙ e)

    go : (b : Bool) → cond b (read_as n (at + k)) None ≡ parsed_of (at + k) (cond b (Some n) None)
    go true = refl
    go false = refl

-- ---- port 0

pub still-malformed : (s : Option Parsed) → s ≡ None → refuse_port_zero s ≡ None
unfolding refuse_port_zero
still-malformed s e = rw e

pub port-zero : (v next : ℕ) → v % 65536 ≡ 0 → refuse_port_zero (read_as v next) ≡ None
unfolding refuse_port_zero
port-zero v next e = rw (eq-eqb (port_of v) 0 (omega (arith, e)))

pub port-kept : (v next : ℕ) → (v % 65536 ≡ 0 → ⊥) → refuse_port_zero (read_as v next) ≡ read_as v next
unfolding refuse_port_zero
port-kept v next h = rw (ne_eqb (port_of v) 0 (λ z. h (omega (arith, z))))

-- ---- further numbers

pub more-done : (text : List ℕ) (v at : ℕ) → more_at 0 text v at ≡ read_as v at
unfolding more_at
more-done text v at = refl

pub no_comma : (n : ℕ) (text : List ℕ) (v at : ℕ) → (get_or text at 0 ≡ comma → ⊥) → more_at (suc n) text v at ≡ None
unfolding more_at
no_comma n text v at h = rw (ne_eqb (get_or text at 0) comma h)

-- a number, and after it n more, a comma before each; v is the value so far
unfoldable pub numbers_from : ℕ → List ℕ → ℕ → ℕ → Option Parsed
numbers_from n text v at = and_then (number_at text at) (λ u next. more_at n text (v * 256 + u) next)

pub from-none : (n : ℕ) (text : List ℕ) (v at : ℕ) → number_at text at ≡ None → numbers_from n text v at ≡ None
unfolding numbers_from and_then
from-none n text v at e = rw e

pub from-number : (n : ℕ) (text : List ℕ) (v at u next : ℕ) → number_at text at ≡ read_as u next → numbers_from n text v at ≡ more_at n text (v * 256 + u) next
unfolding numbers_from and_then
from-number n text v at u next e = rw e

-- from the first number on
pub first-is : (text : List ℕ) (at : ℕ) → host_port_at text at ≡ refuse_port_zero (numbers_from 5 text 0 at)
unfolding host_port_at numbers_from and_then
first-is text at = go (number_at text at)
  where
    go : (s : Option Parsed) → refuse_port_zero (and_then s (more_at 5 text)) ≡ refuse_port_zero (and_then s (λ u next. more_at 5 text (0 * 256 + u) next))
    go None = refl
    go (Some n) =
        let z : 0 * 256 + n.value ≡ n.value = omega arith in
        rw z

pub first-malformed : (text : List ℕ) (at : ℕ) → number_at text at ≡ None → host_port_at text at ≡ None
first-malformed text at e = first-is text at ∙ still-malformed _ (from-none 5 text 0 at e)

pub first-number : (text : List ℕ) (at v next : ℕ) → number_at text at ≡ read_as v next → host_port_at text at ≡ refuse_port_zero (more_at 5 text v next)
first-number text at v next e =
    let z : 0 * 256 + v ≡ v = omega arith in
    first-is text at ∙ ap refuse_port_zero (from-number 5 text 0 at v next e ∙ rw z)

pub comma-there : (n : ℕ) (text : List ℕ) (v at : ℕ) → get_or text at 0 ≡ comma → more_at (suc n) text v at ≡ numbers_from n text v (at + 1)
unfolding more_at numbers_from
comma-there n text v at h = rw (eq-eqb (get_or text at 0) comma h)

pub more-malformed : (n : ℕ) (text : List ℕ) (v at : ℕ) → get_or text at 0 ≡ comma → number_at text (at + 1) ≡ None → more_at (suc n) text v at ≡ None
more-malformed n text v at h e = comma-there n text v at h ∙ from-none n text v (at + 1) e

pub one_more : (n : ℕ) (text : List ℕ) (v at w next : ℕ) → get_or text at 0 ≡ comma → number_at text (at + 1) ≡ read_as w next → more_at (suc n) text v at ≡ more_at n text (v * 256 + w) next
one_more n text v at w next h e = comma-there n text v at h ∙ from-number n text v (at + 1) w next e

-- ---- how large

-- what five numbers make has room for a sixth
pub room-left : (v k : ℕ) → v < 256 ^ k → k < 6 → v < 2 ^ 40
room-left v k h g = omega (arith, pow-le-pow_right {n = 256} (omega arith) {i = k} {j = 5} (omega arith))

pub grows : (v w k : ℕ) → v < 256 ^ k → w < 256 → v * 256 + w < 256 ^ (k + 1)
grows v w k h g = rw (add-one k, pow-suc 256 k) (omega arith)
