-- `frame::write`.
use Prim.Native.Nat.{◌+◌}
use mathlib.Core.Path.{◌≡◌, sym, ◌∙◌}
use native.Mathlib.Omega.{arith}
use borrow.Rule.Slice.PartMut.{put_mid}
use lib.ListN.{length, take, drop, length-take, length-drop}
use Rattle.octets.specs.Digits.{to_little_endian}
use Rattle.answers.proofs.WrittenBy.{room-enough, written}
use Rattle.frames.specs.Frame.{frame_length, frame_of}
use Rattle.frames.proofs.Framed.{frame-placed, frame-written}
use Rattle.frames.proofs.frame.write.Goals as goal

pub returns : goal.returns
returns c =
    let x = c.args in
    let n₁ : length (take 4 x.out.now) ≡ 4 = simp length-take (omega arith) in
    let o₂ = put_mid 0 4 x.out.now c.write.new.out in
    let l₂ : length o₂ ≡ length x.out.now = omega arith in
    let n₂ : length (take 2 (drop 4 o₂)) ≡ 2 = simp (length-take, length-drop) (omega (arith, l₂)) in
    let ys : c.write.new.out ≡ to_little_endian 256 4 (2 + x.n) = rw (n₁, c.from.ensures) at c.write.ensures in
    let zs : c.write-2.new.out ≡ to_little_endian 256 2 x.kind = rw (n₂, c.from-2.ensures) at c.write-2.ensures in
    let h = c.if-out-lt-FRAME_LENGTH.false in (
      (written _ frame_length (frame_of x.kind x.n) x.out.now (room-enough frame_length x.out.now h)).0,
      frame-placed x.kind x.n x.out.now _ _ ys zs ∙ sym (frame-written x.kind x.n x.out.now h),
    )
