-- `ranges::range_text_length`.
use Prim.Native.Nat.{◌-◌}
use native.Mathlib.Omega.{arith}
use Rattle.octets.proofs.Decimals.{width-20}
use Rattle.rangelists.proofs.RangeText.{length-range_text}
use Rattle.rangelists.proofs.ranges.range_text_length.Goals as goal

pub overflow_add-result : goal.overflow_add-result
overflow_add-result c =
    let x = c.args in
    omega (arith, width-20 x.a (omega arith))

pub overflow_add-result-2 : goal.overflow_add-result-2
overflow_add-result-2 c =
    let x = c.args in
    omega (arith, width-20 x.a (omega arith), width-20 (x.b - 1) (omega arith))

pub returns : goal.returns
returns c =
    let x = c.args in
    let n = length-range_text x.a x.b in
    (omega arith, omega (arith, width-20 x.a (omega arith), width-20 (x.b - 1) (omega arith)))
