-- `line::Line::number`.
use Prim.Native.Nat.{ℕ, ◌+◌, ◌-◌, ◌≤◌}
use mathlib.Core.Path.{◌≡◌, ap, ◌∙◌}
use native.Mathlib.Omega.{arith}
use mathlib.Core.List.{◌++◌}
use borrow.Rule.Slice.PartMut.{mid_len}
use lib.ListN.{length, take}
use Rattle.std.proofs.lemmas.Slice.{take-put_mid}
use Rattle.octets.specs.Decimal.{in_digits, decimal}
use Rattle.octets.proofs.Decimals.{length-decimal}
use Rattle.screen.proofs.Screen.{held-length}
use Rattle.screen.proofs.line.Line.number.Goals as goal

pub overflow_add-end : goal.overflow_add-end
overflow_add-end c = omega (arith, length-decimal c.args.n)

pub slice_bounds-write-end : goal.slice_bounds-write-end
slice_bounds-write-end c = let x = c.args in
    omega (arith, length-decimal x.n, held-length c.self.inside.length c.self.inside.bytes x.self.now c.self.view_is c.self.told c.self.invariant)

pub returns : goal.returns
unfolding decimal
returns c =
    let x = c.args in
    let s = c.self.inside in
    let k = c.length.result in
    let l : s.length + k ≤ 116 = omega (arith, length-decimal x.n, c.length.ensures, c.requires, held-length s.length s.bytes x.self.now c.self.view_is c.self.told c.self.invariant) in
    let y : c.write.new.out ≡ decimal x.n = c.write.ensures ∙ ap (λ (w : ℕ). in_digits w x.n) (mid_len s.length (s.length + k) s.bytes (omega arith) ∙ omega (arith, c.length.ensures)) in
    take-put_mid s.length (s.length + k - s.length) s.bytes c.write.new.out (s.length + k) (omega (arith, ap length y, length-decimal x.n, c.length.ensures)) (omega (arith, c.self.invariant))
    ∙ ap (λ t. take s.length s.bytes ++ t) y
    ∙ ap (λ t. t ++ decimal x.n) c.self.view_is
