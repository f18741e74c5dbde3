-- `host_port::number_at`: what reading the digits at the place answers.
use Prim.Native.Nat.{◌+◌, ◌≤◌, ◌<◌}
use mathlib.Core.Path.{◌≡◌, sym, ap, ◌∙◌}
use native.Mathlib.Omega.{arith}
use lib.ListN.{get_or, take, drop, length-drop}
use lib.Seq.{length-take-le}
use Rattle.octets.specs.Decimal.{read_of}
use Rattle.texts.specs.Text.{is_digit, leading_count}
use Rattle.texts.proofs.Texts.{leading_le}
use Rattle.hostports.specs.HostPort.{digit_limit, value_limit, number_at}
use Rattle.octets.proofs.Rest.{rest_is}
use Rattle.hostports.proofs.HostPort.{parsed_of, number_past, number-long, number-zero, number_short}
use Rattle.hostports.proofs.host_port.number_at.Goals as goal
use Rattle.hostports.proofs.host_port.number_at.Goals.{In_ok-rest, After-leading-digits, Joined-else-digits-gt1, After-read, else-digits-gt1-via-then-digits-gt1+else-rest-eq48, else-digits-gt1-via-else-digits-gt1}

-- what is left of the text is what the code calls rest, and how many digits it begins with
there : (c : In_ok-rest) → c.in_ok-rest.rest.now ≡ drop c.args.at c.args.text.now
there c = c.in_ok-rest.ensures.lookup.0.2 ∙ rest_is c.args.text.now c.args.at

run_is : (c : After-leading-digits) → let x = c.args in c.leading-digits.result ≡ leading_count is_digit (drop x.at x.text.now)
run_is c = c.leading-digits.ensures ∙ rw (there (goal.at.After-leading-digits c).In_ok-rest)

-- where the digits are read, they are at most three, and the first is not 0 where there are more
few : (c : Joined-else-digits-gt1) → let x = c.args in leading_count is_digit (drop x.at x.text.now) ≤ digit_limit
few c = omega (arith, run_is (goal.at.Joined-else-digits-gt1 c).After-leading-digits, c.if-digits-gt3.false)

plain : (c : Joined-else-digits-gt1) → let x = c.args in let s = drop x.at x.text.now in 1 < leading_count is_digit s → get_or s 0 0 ≡ 48 → ⊥
plain c h e =
    elim c.else-digits-gt1.branch [
      | else-digits-gt1-via-then-digits-gt1+else-rest-eq48 w ↦ w.if-rest-eq48.false (rw (there (goal.at.Joined-else-digits-gt1 c).In_ok-rest) e)
      | else-digits-gt1-via-else-digits-gt1 w ↦ omega (arith, run_is (goal.at.Joined-else-digits-gt1 c).After-leading-digits, w.if-digits-gt1.false)
    ]

-- what is read of the digits is the number there
number_is : (c : After-read) → let x = c.args in
    number_at x.text.now x.at ≡ parsed_of (x.at + c.leading-digits.result) c.read.result
number_is c =
    let x = c.args in
    let k = run_is (goal.at.After-read c).After-leading-digits in
    let r : c.read.result ≡ read_of (take (leading_count is_digit (drop x.at x.text.now)) (drop x.at x.text.now)) value_limit =
    c.read.ensures ∙ rw (there (goal.at.After-read c).In_ok-rest, k)
    in
    rw (k, r) (number_short x.text.now x.at (few (goal.at.After-read c).Joined-else-digits-gt1) (plain (goal.at.After-read c).Joined-else-digits-gt1))

pub returns-in_err-rest : goal.returns-in_err-rest
returns-in_err-rest c = c.from_residual.ensures ∙ sym (number_past c.args.text.now c.args.at (omega (arith, c.in_err-rest.ensures.lookup.0)))

pub returns-then-digits-gt3 : goal.returns-then-digits-gt3
returns-then-digits-gt3 c =
    sym (number-long c.args.text.now c.args.at (omega (arith, run_is (goal.at.returns-then-digits-gt3 c).After-leading-digits)))

pub bounds-rest-0 : goal.bounds-rest-0
bounds-rest-0 c = omega (arith, c.if-digits-gt1.true, c.leading-digits.ensures, leading_le is_digit c.in_ok-rest.rest.now)

pub returns-then-rest-eq48 : goal.returns-then-rest-eq48
returns-then-rest-eq48 c =
    let h = goal.at.returns-then-rest-eq48 c in
    sym (number-zero c.args.text.now c.args.at (omega (arith, run_is h.After-leading-digits, c.if-digits-gt1.true)) (rw (there h.In_ok-rest) at c.if-rest-eq48.true))

pub slice_bounds-read-end : goal.slice_bounds-read-end
slice_bounds-read-end c =
    let s = c.in_ok-rest.rest.now in
    sym (length-take-le c.leading-digits.result s (omega (arith, c.leading-digits.ensures, leading_le is_digit s)))

pub returns-in_err-value : goal.returns-in_err-value
returns-in_err-value c = c.from_residual-in_err-value.ensures ∙ sym (number_is (goal.at.returns-in_err-value c).After-read ∙ ap (parsed_of _) c.in_err-value.was)

pub overflow_add-result : goal.overflow_add-result
overflow_add-result c =
    omega (arith, run_is (goal.at.overflow_add-result c).After-leading-digits, leading_le is_digit (drop c.args.at c.args.text.now), length-drop c.args.at c.args.text.now)

pub returns : goal.returns
returns c = sym (number_is (goal.at.returns c).After-read ∙ ap (parsed_of _) c.in_ok-value.was)
