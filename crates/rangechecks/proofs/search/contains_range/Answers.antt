-- `search::contains_range`.
use Prim.Native.Nat.{◌+◌}
use mathlib.Core.Path.{sym}
use native.Mathlib.Omega.{arith}
use Rattle.ledger.specs.Ledger.{largest, pairs_of}
use Rattle.ledger.proofs.LedgerSizes.{ends-fit}
use Rattle.rangechecks.proofs.RangeInside.{past_all}
use Rattle.rangechecks.proofs.search.contains_range.Goals as goal

pub returns-in-None : goal.returns-in-None
returns-in-None c =
    let x = c.args in
    λ h o. sym (past_all x.start (x.start + x.length) largest (pairs_of x.ledger.now) (ends-fit x.ledger.now (λ i. omega (arith, c.type_inv.ledger i))) (omega (arith, c.in-None.ensures)))
