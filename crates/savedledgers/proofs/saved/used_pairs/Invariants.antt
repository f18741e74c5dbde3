-- `saved::used_pairs`: the pairs passed and those that are left are all.
use Prim.Native.Nat.{◌+◌, ◌≤◌}
use mathlib.Core.Path.{◌≡◌}
use lib.ListN.{length}
use Rattle.ledger.specs.Pairs.{size}
use Rattle.ledger.specs.Ledger.{pairs_of}
use Rattle.savedledgers.proofs.saved.used_pairs.Given as goal

abbrev pub invariant-loop-after : goal.invariant-loop-after
invariant-loop-after l = (l.used + length l.rest ≤ length l.ledger) × (l.used + size (pairs_of l.rest) ≡ size (pairs_of l.ledger))

abbrev pub decreases-loop-after : goal.decreases-loop-after
decreases-loop-after l = length l.rest
