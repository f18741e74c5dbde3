-- `feed::take`.
use Prim.Native.Nat.{◌-◌, ◌<◌}
use mathlib.Core.Path.{◌≡◌}
use mathlib.Core.Bool.{false}
use lib.ListN.{length}
use Rattle.recordings.specs.Kept.{kept}
use Rattle.recordings.proofs.Taking.{Taking}
use Rattle.recordings.proofs.feed.take.Given as goal

abbrev pub invariant-loop-at : goal.invariant-loop-at
invariant-loop-at l =
    Taking (kept l.initial.s l.initial.held l.initial.file l.initial.claimed l.initial.doubtful) l.chunk l.initial.out (kept l.s l.held l.file l.claimed l.doubtful) l.at l.written l.out × (l.s.stopped ≡ false) × (length l.out ≡ length l.initial.out) × (length l.initial.out < 18446744073709551616)

abbrev pub decreases-loop-at : goal.decreases-loop-at
decreases-loop-at l =
    length l.chunk - l.at
