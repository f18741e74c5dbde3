-- `big::read`: n is the number of the bytes passed.
use mathlib.Core.Path.{refl, ap, ◌∙◌}
use native.Mathlib.Omega.{arith}
use lib.ListN.{take, length-take}
use lib.Seq.{take_all}
use Rattle.octets.specs.Digits.{from_big_endian, from_little_endian}
use Rattle.octets.proofs.Digits.{below_at, below-take}
use Rattle.octets.proofs.LoopStep.{room, big_more, take-eight}
use Rattle.octets.proofs.big.read.Goals as goal
use Rattle.octets.proofs.big.read.Goals.{In-loop-b}

pub loop-b-init : goal.loop-b-init
unfolding from_big_endian from_little_endian
loop-b-init c = refl

pub overflow_mul-n : goal.overflow_mul-n
overflow_mul-n c =
    let s = c.args.bytes.now in
    let m = c.min.result in
    let b = below-take 256 m s (below_at 256 s (λ i. omega (arith, c.type_inv.bytes i))) in
    omega (arith, room (take m s) c.loop-b.b-index b (simp length-take (omega arith)) c.loop-b-test.true)

pub overflow_add-n : goal.overflow_add-n
overflow_add-n c =
    let s = c.args.bytes.now in
    let m = c.min.result in
    let b = below-take 256 m s (below_at 256 s (λ i. omega (arith, c.type_inv.bytes i))) in
    omega (arith, room (take m s) c.loop-b.b-index b (simp length-take (omega arith)) c.loop-b-test.true)

pub loop-b-preserved : goal.loop-b-preserved
loop-b-preserved c = rw (big_more 256 (take c.min.result c.args.bytes.now) c.loop-b.b-index c.loop-b-test.true, c.loop-b.invariant, c.from.ensures)

pub returns : goal.returns
returns c =
    let s = c.args.bytes.now in
    let m = c.min.result in
    c.loop-b.invariant ∙ ap (from_big_endian 256) (take_all c.loop-b.b-index (take m s) c.loop-b-test.false ∙ take-eight s m c.min.ensures)
