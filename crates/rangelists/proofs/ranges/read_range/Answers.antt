-- `ranges::read_range`.
use Prim.Native.Nat.{ℕ, suc, ◌+◌, ◌≤◌, ◌-◌}
use mathlib.Core.Path.{◌≡◌, sym, ap, ◌∙◌}
use mathlib.Core.Bool.{true}
use native.Mathlib.Omega.{arith}
use borrow.Author.Tests.{ltb-true, ltb-false}
use lib.ListN.{length, get_or, take, drop, length-drop}
use lib.Seq.{take_all}
use Rattle.std.proofs.lemmas.List.{get_or_default}
use Rattle.octets.specs.Decimal.{decimal_value}
use Rattle.texts.specs.Text.{is_digit, leading_count}
use Rattle.rangelists.specs.RangeText.{is_position, position_of}
use Rattle.rangelists.proofs.RangeParsing.{position-none, position-value, position-is, range-no-hyphen, range-short, range-no-start, range-no-end, range-falling, range-places}
use Rattle.rangelists.proofs.ranges.read_range.Goals as goal
use Rattle.rangelists.proofs.ranges.read_range.Goals.{In_ok-get, Else-branch-ne45, After-read_position, In_ok-start, After-read_position-2, In_ok-last}

-- the byte after the digits
byte : (c : In_ok-get) → let s = c.args.text.now in get_or s (leading_count is_digit s) 0 ≡ c.in_ok-get.field-0.now
byte c =
    let h = c.in_ok-get.ensures.lookup in
    let s = c.args.text.now in
    rw (← c.leading-digits.ensures) (get_or_default s c.leading-digits.result 0 c.in_ok-get.field-0.now (ltb-true c.leading-digits.result (length s) (sym h.0)) ∙ sym h.1)

hyphen : (c : Else-branch-ne45) → let s = c.args.text.now in get_or s (leading_count is_digit s) 0 ≡ 45
hyphen c = byte (goal.at.Else-branch-ne45 c).In_ok-get ∙ c.if-branch-ne45.false

-- the number before the hyphen, and the one after it
start_is : (c : After-read_position) → let s = c.args.text.now in
    c.read_position.result ≡ position_of (take (leading_count is_digit s) s)
start_is c = rw c.leading-digits.ensures at c.read_position.ensures

start-value : (c : In_ok-start) → let s = c.args.text.now in
    (is_position (take (leading_count is_digit s) s) ≡ true) × (decimal_value (take (leading_count is_digit s) s) ≡ c.in_ok-start.start)
start-value c = position-value _ c.in_ok-start.start (sym (start_is (goal.at.In_ok-start c).After-read_position) ∙ c.in_ok-start.was)

end_is : (c : After-read_position-2) → let s = c.args.text.now in
    c.read_position-2.result ≡ position_of (drop (suc (leading_count is_digit s)) s)
end_is c =
    let s = c.args.text.now in
    let k = c.leading-digits.result in
    let h : length (drop (k + 1) s) ≤ length s - (k + 1) = simp length-drop (omega arith) in
    let e : k + 1 ≡ suc (leading_count is_digit s) = omega (arith, c.leading-digits.ensures) in
    c.read_position-2.ensures ∙ ap position_of (take_all (length s - (k + 1)) (drop (k + 1) s) h ∙ ap (λ (n : ℕ). drop n s) e)

end-value : (c : In_ok-last) → let s = c.args.text.now in
    (is_position (drop (suc (leading_count is_digit s)) s) ≡ true) × (decimal_value (drop (suc (leading_count is_digit s)) s) ≡ c.in_ok-last.last)
end-value c = position-value _ c.in_ok-last.last (sym (end_is (goal.at.In_ok-last c).After-read_position-2) ∙ c.in_ok-last.was)

pub returns-in_err-get : goal.returns-in_err-get
returns-in_err-get c =
    let s = c.args.text.now in
    c.from_residual.ensures ∙ sym (range-short s (omega (arith, c.leading-digits.ensures, ltb-false c.leading-digits.result (length s) (sym c.in_err-get.ensures.lookup.0))))

pub returns-then-branch-ne45 : goal.returns-then-branch-ne45
returns-then-branch-ne45 c =
    sym (range-no-hyphen c.args.text.now (λ e. c.if-branch-ne45.true (sym (byte (goal.at.returns-then-branch-ne45 c).In_ok-get) ∙ e)))

pub returns-in_err-start : goal.returns-in_err-start
returns-in_err-start c =
    let h = goal.at.returns-in_err-start c in
    c.from_residual-in_err-start.ensures ∙ sym (range-no-start c.args.text.now (position-none _ (sym (start_is h.After-read_position) ∙ c.in_err-start.was)))

pub returns-in_err-last : goal.returns-in_err-last
returns-in_err-last c =
    let h = goal.at.returns-in_err-last c in
    c.from_residual-in_err-last.ensures
    ∙ sym (range-no-end c.args.text.now (start-value h.In_ok-start).0 (hyphen h.Else-branch-ne45) (position-none _ (sym (end_is h.After-read_position-2) ∙ c.in_err-last.was)))

pub returns-then-last-start : goal.returns-then-last-start
returns-then-last-start c =
    let h = goal.at.returns-then-last-start c in
    let start = start-value h.In_ok-start in
    let end = end-value h.In_ok-last in
    sym (range-falling c.args.text.now start.0 (hyphen h.Else-branch-ne45) end.0 (omega (arith, start.1, end.1)))

pub overflow_add-result : goal.overflow_add-result
overflow_add-result c =
    let end = end-value (goal.at.overflow_add-result c).In_ok-last in
    omega (arith, end.1, (position-is _ end.0).most)

pub returns : goal.returns
returns c =
    let s = c.args.text.now in
    let h = goal.at.returns c in
    let start = start-value h.In_ok-start in
    let end = end-value h.In_ok-last in
    let e : c.in_ok-last.last + 1 ≡ suc (decimal_value (drop (suc (leading_count is_digit s)) s)) = omega (arith, end.1) in
    rw (e, ← start.1) (sym (range-places s start.0 (hyphen h.Else-branch-ne45) end.0 (omega (arith, start.1, end.1))))
