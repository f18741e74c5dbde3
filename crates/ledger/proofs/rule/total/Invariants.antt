-- `rule::total`: what is counted and what the pairs that are left hold is all, up to the largest number.
use Prim.Native.Nat.{◌+◌, ◌≤◌, min}
use mathlib.Core.Path.{◌≡◌}
use lib.ListN.{length}
use Rattle.ledger.specs.Pairs.{total}
use Rattle.ledger.specs.Ledger.{pairs_of}
use Rattle.ledger.proofs.rule.total.Given as goal

abbrev pub invariant-loop-start : goal.invariant-loop-start
invariant-loop-start l = (l.total ≤ 18446744073709551615) × (min 18446744073709551615 (l.total + total (pairs_of l.rest)) ≡ min 18446744073709551615 (total (pairs_of l.ledger)))

abbrev pub decreases-loop-start : goal.decreases-loop-start
decreases-loop-start l = length l.rest
