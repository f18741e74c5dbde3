-- `claim::put`.
use native.Mathlib.Omega.{arith}
use Rattle.claims.proofs.Judged.{puts-outside}
use Rattle.claims.proofs.claim.put.Goals as goal
use Rattle.claims.proofs.claim.put.Goals.{else-slot-via-then-slot+else-slot-ledger, else-slot-via-else-slot}

pub returns-else-slot : goal.returns-else-slot
returns-else-slot c =
    let x = c.args in
    puts-outside x.slot x.start x.end x.ledger.now (λ q. elim c.else-slot.branch [ else-slot-via-then-slot+else-slot-ledger w ↦ omega arith | else-slot-via-else-slot w ↦ omega arith ])
