-- `rule::obeys_after`: the pairs passed obey the rule; those that are left decide, and the last end.
use mathlib.Core.Path.{◌≡◌}
use lib.ListN.{length}
use Rattle.ledger.proofs.LedgerPairAt.{sound_after}
use Rattle.ledger.proofs.rule.obeys_after.Given as goal

abbrev pub invariant-loop-start : goal.invariant-loop-start
invariant-loop-start l = sound_after l.last l.limit l.rest ≡ sound_after l.first l.limit l.pairs

abbrev pub decreases-loop-start : goal.decreases-loop-start
decreases-loop-start l = length l.rest
