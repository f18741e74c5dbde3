-- `decimal::read`: the bytes passed are digits, and n is what they say.
use Prim.Native.Nat.{◌+◌, ◌*◌, ◌<◌}
use mathlib.Core.Path.{◌≡◌, refl, sym, ◌∙◌}
use mathlib.Core.Bool.{true}
use native.Mathlib.Omega.{arith}
use borrow.Author.Tests.{le-ltb, lt-leb, eqb-true, eqb-false}
use lib.ListN.{length, get_or, take}
use lib.Seq.{take_all}
use Rattle.octets.specs.Digits.{from_big_endian, from_little_endian}
use Rattle.octets.specs.Decimal.{decimal_value, digit_value, read_of}
use Rattle.texts.specs.Text.{is_digit, all}
use Rattle.texts.proofs.Texts.{all-not, all_more}
use Rattle.octets.proofs.Decimals.{number_of-more, number_of-above}
use Rattle.octets.proofs.Reading.{read_of-spoilt, read_of-above, read_of-value}
use Rattle.octets.proofs.decimal.read.Goals as goal
use Rattle.octets.proofs.decimal.read.Goals.{In-loop-b}

-- the number of the bytes up to the one at hand
one_more : (c : In-loop-b) → let s = c.args.text.now in
    decimal_value (take (c.loop-b.b-index + 1) s) ≡ c.loop-b.n * 10 + digit_value (get_or s c.loop-b.b-index 0)
one_more c =
    let s = c.args.text.now in
    number_of-more s c.loop-b.b-index c.loop-b-test.true ∙ rw (← c.loop-b.invariant.1)

pub returns-then-is_empty : goal.returns-then-is_empty
unfolding read_of
returns-then-is_empty c =
    let n = length c.args.text.now in
    let e = eqb-true n 0 (sym c.is_empty.ensures ∙ c.if-is_empty.true) in
    rw (le-ltb 0 n (omega arith))

pub loop-b-init : goal.loop-b-init
unfolding all decimal_value from_big_endian from_little_endian
loop-b-init c = (refl, refl)

pub returns-then-not-is_of_kind : goal.returns-then-not-is_of_kind
returns-then-not-is_of_kind c =
    let x = c.args in
    let n = sym c.is_of_kind.ensures ∙ c.if-not-is_of_kind.true in
    sym (read_of-spoilt x.text.now x.limit (all-not is_digit x.text.now c.loop-b.b-index c.loop-b-test.true n))

pub returns-in_err-checked_mul : goal.returns-in_err-checked_mul
returns-in_err-checked_mul c =
    let x = c.args in
    let m = one_more (goal.at.returns-in_err-checked_mul c).In-loop-b in
    let a : x.limit < decimal_value (take (c.loop-b.b-index + 1) x.text.now) = omega (arith, m, c.in_err-checked_mul.ensures) in
    c.from_residual.ensures ∙ sym (read_of-above x.text.now x.limit (number_of-above x.text.now (c.loop-b.b-index + 1) x.limit a))

pub returns-in_err-n : goal.returns-in_err-n
returns-in_err-n c =
    let x = c.args in
    let m = one_more (goal.at.returns-in_err-n c).In-loop-b in
    let a : x.limit < decimal_value (take (c.loop-b.b-index + 1) x.text.now) = omega (arith, m, c.in_err-n.ensures, c.in_ok-checked_mul.ensures) in
    c.from_residual-in_err-n.ensures ∙ sym (read_of-above x.text.now x.limit (number_of-above x.text.now (c.loop-b.b-index + 1) x.limit a))

pub loop-b-preserved : goal.loop-b-preserved
loop-b-preserved c =
    let s = c.args.text.now in
    let m = one_more (goal.at.loop-b-preserved c).In-loop-b in
    let d : is_digit (get_or s c.loop-b.b-index 0) ≡ true = sym c.is_of_kind.ensures ∙ c.if-not-is_of_kind.false in
    (all_more is_digit s c.loop-b.b-index c.loop-b-test.true d c.loop-b.invariant.0, omega (arith, m, c.in_ok-n.ensures, c.in_ok-checked_mul.ensures, c.from.ensures))

pub returns-then-n-limit : goal.returns-then-n-limit
returns-then-n-limit c =
    let x = c.args in
    let s = x.text.now in
    let w : take c.loop-b.b-index s ≡ s = take_all c.loop-b.b-index s c.loop-b-test.false in
    let n : c.loop-b.n ≡ decimal_value s = rw w at c.loop-b.invariant.1 in
    let some = eqb-false (length s) 0 (sym c.is_empty.ensures ∙ c.if-is_empty.false) in
    rw n (sym (read_of-value s x.limit (omega arith) (rw w at c.loop-b.invariant.0) (omega arith)))

pub returns-else-n-limit : goal.returns-else-n-limit
returns-else-n-limit c =
    let x = c.args in
    let s = x.text.now in
    let w : take c.loop-b.b-index s ≡ s = take_all c.loop-b.b-index s c.loop-b-test.false in
    let n : c.loop-b.n ≡ decimal_value s = rw w at c.loop-b.invariant.1 in
    sym (read_of-above s x.limit (lt-leb (decimal_value s) x.limit (omega arith)))
