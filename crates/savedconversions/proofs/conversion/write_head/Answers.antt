-- `conversion::write_head`.
use Prim.Native.Nat.{◌+◌, ◌-◌}
use mathlib.Core.Path.{◌≡◌, sym, ◌∙◌}
use mathlib.Core.List.{[]}
use native.Mathlib.Omega.{arith}
use Rattle.answers.proofs.WrittenBy.{room-enough, written}
use Rattle.frames.specs.Frame.{frame_of}
use Rattle.frames.proofs.Framed.{length-frame_of, frame-written}
use Rattle.savedrecords.specs.Kind.{head_length}
use Rattle.savedconversions.proofs.Parts.{number_behind}
use Rattle.savedconversions.proofs.conversion.write_head.Goals as goal

-- there is room for the frame
pub unwrap-requires : goal.unwrap-requires
unwrap-requires c =
    let out = c.args.out.now in
    let e = c.write.ensures.0 ∙ sym (written _ 6 [] out (room-enough 6 out (omega arith))).0 in
    grind (arith, e)

pub returns : goal.returns
returns c =
    let x = c.args in
    let head = c.head_length-head.ensures in
    let number = x.kind.number in
    let body = head_length x.kind + x.n in
    let frame = rw head at c.write.ensures.1 ∙ frame-written number body x.out.now (omega arith) in
    let q : 6 + head_length x.kind - 6 ≡ head_length x.kind = omega arith in
    let e = rw (head, q) at c.write-2.ensures in
    rw (head, q) (number_behind x.out.now _ (frame_of number body) _ 6 (head_length x.kind) frame (length-frame_of number body) x.len (omega arith) e)
