-- `saved::write_numbers`: what is written, with what is still to be written after it, is the whole.
use Prim.Native.Nat.{◌*◌}
use mathlib.Core.Path.{◌≡◌, sym, ◌∙◌}
use mathlib.Core.List.{append-nil}
use native.Mathlib.Omega.{arith}
use lib.ListN.{length}
use lib.Seq.{take-length, drop-length}
use Rattle.savedledgers.specs.Numbers.{number_bytes}
use Rattle.savedledgers.proofs.Numbers.{write-turn}
use Rattle.savedledgers.proofs.saved.write_numbers.Goals as goal

pub loop-i-preserved : goal.loop-i-preserved
loop-i-preserved c =
    let x = c.args in
    (omega arith, omega arith, write-turn x.numbers.now c.loop-i.out _ c.loop-i.i (omega arith) (omega arith) c.write.ensures ∙ c.loop-i.invariant.2)

pub returns : goal.returns
unfolding number_bytes
returns c =
    let ns = c.args.numbers.now in
    let e : c.loop-i.i ≡ length ns = omega arith in
    let o : 8 * length ns ≡ length c.loop-i.out = omega arith in
    sym (append-nil c.loop-i.out) ∙ (rw (e, o, take-length c.loop-i.out, drop-length ns) at c.loop-i.invariant.2)
