-- `little::read`: n is the number of the bytes passed, the first of them the most significant.
use Prim.Native.Nat.{◌+◌, ◌*◌, ◌≤◌, ◌<◌}
use mathlib.Core.Path.{refl, ◌∙◌}
use mathlib.Core.List.{map-append, reverse, reverse-reverse}
use native.Mathlib.Omega.{arith}
use lib.ListN.{length, take, length-take, length-reverse}
use Rattle.std.proofs.lemmas.Grind.{get_or_default_zero}
use Rattle.std.proofs.lemmas.Iterator.Adapters.{YieldsList-from_rev_slice}
use Rattle.std.proofs.lemmas.Iterator.Consumers.{YieldsList-so_far, YieldsList-turn, YieldsList-end}
use Rattle.octets.specs.Digits.{from_big_endian, from_little_endian}
use Rattle.octets.proofs.Digits.{below_at, below-take, below-reverse, from_big-snoc}
use Rattle.octets.proofs.LoopStep.{room, take-eight}
use Rattle.octets.proofs.little.read.Goals as goal
use Rattle.octets.proofs.little.read.Goals.{In-Some, In-None}

-- the byte at hand has room in eight bytes
fits : (c : In-Some) → c.loop-b.n * 256 + c.in-Some.field-0.now < 18446744073709551616
fits c =
    let m = c.min.result in
    let s = reverse (take m c.args.bytes.now) in
    let k = length c.loop-b.yielded in
    let b = below-reverse 256 (take m c.args.bytes.now) (below-take 256 m c.args.bytes.now (below_at 256 c.args.bytes.now (λ i. omega (arith, c.type_inv.bytes i)))) in
    let l : length s ≤ 8 = omega (arith, length-reverse (take m c.args.bytes.now), length-take m c.args.bytes.now) in
    let road = YieldsList-from_rev_slice (take m c.args.bytes.now) (cc) in
    let t = YieldsList-turn road c.loop-b.yielded _ c.loop-b.yielded_by _ _ c.in-Some.field-0 c.in-Some.is c.next.ensures.steps in
    let p = YieldsList-so_far road c.loop-b.yielded _ c.loop-b.yielded_by in
    let v = t.1 ∙ get_or_default_zero s k c.in-Some.field-0.now t.0 in
    rw (v, c.loop-b.invariant.2, p) (room s k b l t.0)

pub loop-b-init : goal.loop-b-init
unfolding from_big_endian from_little_endian
loop-b-init c = (tt, tt, refl)

pub overflow_mul-n : goal.overflow_mul-n
overflow_mul-n c = omega (arith, fits (goal.at.overflow_mul-n c).In-Some)

pub overflow_add-n : goal.overflow_add-n
overflow_add-n c = omega (arith, c.from.ensures, fits (goal.at.overflow_add-n c).In-Some)

pub loop-b-preserved : goal.loop-b-preserved
loop-b-preserved c =
    (tt, tt, rw (map-append (λ x. x.now) c.loop-b.yielded, from_big-snoc 256 c.in-Some.field-0.now, c.from.ensures, c.loop-b.invariant.2))

pub returns : goal.returns
unfolding from_big_endian
returns c =
    let s = take c.min.result c.args.bytes.now in
    let e = YieldsList-end (YieldsList-from_rev_slice s (cc)) c.loop-b.yielded _ c.loop-b.yielded_by _ _ c.in-None.is c.next.ensures.steps in
    c.loop-b.invariant.2 ∙ rw (e.0, reverse-reverse s, take-eight c.args.bytes.now c.min.result c.min.ensures)
