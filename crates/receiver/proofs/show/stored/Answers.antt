-- `show::stored`.
use native.Mathlib.Omega.{arith}
use Rattle.receiver.proofs.Shown.{stored-whole}
use Rattle.receiver.proofs.show.stored.Goals as goal

pub returns : goal.returns
returns c =
    let x = c.args in
    omega (arith, c.total-all.ensures, c.left-left.ensures, c.saturating_sub.ensures, stored-whole x.t x.claimed.now x.doubtful.now c.requires (omega arith))
