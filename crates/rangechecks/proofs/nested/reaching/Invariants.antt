-- `nested::reaching`: the pairs passed end below the place.
use mathlib.Core.Path.{◌≡◌}
use lib.ListN.{length}
use Rattle.ledger.specs.Ledger.{pairs_of}
use Rattle.rangechecks.specs.Nested.{reaching}
use Rattle.rangechecks.proofs.nested.reaching.Given as goal

abbrev pub invariant-loop-end : goal.invariant-loop-end
invariant-loop-end l = reaching l.place (pairs_of l.rest) ≡ reaching l.place (pairs_of l.ledger)

abbrev pub decreases-loop-end : goal.decreases-loop-end
decreases-loop-end l = length l.rest
