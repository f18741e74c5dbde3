-- `verdict::of_transfer`: all channels are beside one that is unused.
use Prim.Native.Nat.{◌+◌}
use mathlib.Core.Path.{◌≡◌}
use native.Mathlib.Omega.{arith}
use Rattle.transfer.specs.Transfer.{ended_of, all_ended, is_doubted, verdict_of}
use Rattle.verdicts.proofs.verdict.of_transfer.Goals as goal

pub returns : goal.returns
unfolding verdict_of all_ended is_doubted
returns c file claimed =
    let z : c.ended.result + 0 ≡ ended_of c.args.t = omega (arith, c.ended.ensures) in
    rw (← z, ← c.has_pair.ensures) c.of.ensures
