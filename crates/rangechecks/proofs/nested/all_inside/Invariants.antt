-- `nested::all_inside`: the pairs that are left of both ledgers decide.
use mathlib.Core.Path.{◌≡◌}
use mathlib.Core.Bool.{true}
use lib.ListN.{length}
use Rattle.ledger.specs.Pairs.{all_inside}
use Rattle.ledger.specs.Ledger.{obeys, pairs_of}
use Rattle.rangechecks.proofs.NestedWalk.{Left}
use Rattle.rangechecks.proofs.nested.all_inside.Given as goal

abbrev pub invariant-loop-start : goal.invariant-loop-start
invariant-loop-start l = obeys l.inner ≡ true → obeys l.outer ≡ true → Left (pairs_of l.left) (pairs_of l.around) (all_inside (pairs_of l.inner) (pairs_of l.outer))

abbrev pub decreases-loop-start : goal.decreases-loop-start
decreases-loop-start l = length l.left
