-- `shift::insert`.
use native.Mathlib.Omega.{arith}
use Rattle.claims.proofs.Shifts.{up-filled}
use Rattle.claims.proofs.shift.insert.Goals as goal

pub returns : goal.returns
returns c =
    let x = c.args in
    rw (c.copy_within.ensures.after) (up-filled x.ledger.now x.at x.end x.a x.b (omega arith) (omega arith))
