-- `ranges::join_text`.
use mathlib.Core.Path.{◌≡◌}
use native.Mathlib.Omega.{arith}
use Rattle.std.specs.Prelude.{Some, None}
use Rattle.std.proofs.lemmas.Result.{err_from_is_err_and}
use Rattle.answers.specs.declared.refusal.Refusal.TheVariants.{MalformedRanges}
use Rattle.rangelists.specs.RangeText.{range_of}
use Rattle.rangelists.proofs.RangeMerging.{represents-51, represents-join}
use Rattle.rangelists.proofs.ranges.join_text.Goals as goal
use Rattle.rangelists.proofs.ranges.join_text.Goals.{In_ok-range}

range-is : (c : In_ok-range) → range_of c.args.text.now ≡ Some c.in_ok-range.range
range-is c =
    let h = c.ok_or.ensures.ok_part in
    let w = c.in_ok-range.was in
    let e = c.read_range.ensures in
    grind arith

pub returns-in_err-range : goal.returns-in_err-range
returns-in_err-range c =
    let x = c.args in
    let p = err_from_is_err_and c.from_residual.result c.from_residual.ensures.1 in
    let k : c.in_err-range.field-0.0 ≡ MalformedRanges = grind arith in
    let e : range_of x.text.now ≡ None = grind arith in
    rw (p.1, p.2, k) (represents-51 _ _ x.text.now x.ledger.now e)

pub returns : goal.returns
returns c = represents-join c.args.text.now c.args.ledger.now _ _ (range-is (goal.at.returns c).In_ok-range) c.requires _ _ c.join.ensures
