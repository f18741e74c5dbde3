-- `ranges::put_range`.
use Prim.Native.Nat.{◌+◌, ◌-◌}
use mathlib.Core.Path.{◌≡◌, ap, ◌∙◌}
use native.Mathlib.Omega.{arith}
use borrow.Rule.Slice.PartMut.{put_mid}
use lib.ListN.{length, set, length-set}
use lib.Seq.{sets, length-sets}
use Rattle.rangelists.specs.RangeText.{range_text}
use Rattle.rangelists.proofs.RangeText.{length-range_text, range-put}
use Rattle.rangelists.proofs.ranges.put_range.Goals as goal
use Rattle.rangelists.proofs.ranges.put_range.Goals.{After-slice_known-3-1}

-- the three stores together
whole : (c : After-slice_known-3-1) → let x = c.args in
    let h = x.at + c.length.result in
    put_mid (h + 1) (h + 1 + c.length-2.result - (h + 1)) (set (put_mid x.at (h - x.at) x.out.now c.write.new.out) h 45) c.write-2.new.out
    ≡ sets x.out.now x.at (range_text x.a x.b)
whole c =
    let x = c.args in
    range-put x.out.now c.write.new.out c.write-2.new.out x.at c.length.result c.length-2.result x.a x.b c.requires.1 c.length.ensures c.length-2.ensures
    c.write.ensures c.write-2.ensures

pub overflow_add-hyphen : goal.overflow_add-hyphen
overflow_add-hyphen c =
    let x = c.args in
    omega (arith, length-range_text x.a x.b)

pub slice_bounds-write-end : goal.slice_bounds-write-end
slice_bounds-write-end c =
    let x = c.args in
    omega (arith, length-range_text x.a x.b)

pub bounds-out-hyphen : goal.bounds-out-hyphen
bounds-out-hyphen c =
    let x = c.args in
    omega (arith, length-range_text x.a x.b)

pub overflow_add-from : goal.overflow_add-from
overflow_add-from c =
    let x = c.args in
    omega (arith, length-range_text x.a x.b)

pub overflow_add-end : goal.overflow_add-end
overflow_add-end c =
    let x = c.args in
    omega (arith, length-range_text x.a x.b)

pub slice_bounds-write-end-2 : goal.slice_bounds-write-end-2
slice_bounds-write-end-2 c =
    let x = c.args in
    simp length-set (omega (arith, length-range_text x.a x.b))

pub shape_of-out : goal.shape_of-out
shape_of-out c =
    let x = c.args in
    ap length (whole c) ∙ length-sets x.out.now x.at (range_text x.a x.b)

pub returns : goal.returns
returns c =
    let x = c.args in
    (omega (arith, length-range_text x.a x.b), whole c)
