-- `record::in_order`: the pairs that are left, after the one before them, are in order as all of them are.
use Prim.Native.Nat.{◌/◌}
use mathlib.Core.Path.{◌≡◌}
use lib.ListN.{length}
use Rattle.ledger.specs.Pairs.{obey_from}
use Rattle.savedrecords.specs.Record.{pairs_in}
use Rattle.savedrecords.proofs.RecordPairs.{lowest_after}
use Rattle.savedrecords.proofs.record.in_order.Given as goal

abbrev pub invariant-loop-bytes : goal.invariant-loop-bytes
invariant-loop-bytes l =
    let rest = l.bytes-iterator.rest.now in
    (l.bytes-iterator.size ≡ 16)
    × (obey_from (lowest_after l.before.start l.before.length) (pairs_in l.second (length rest / 16) rest) ≡ obey_from 0 (pairs_in l.second (length l.pairs / 16) l.pairs))
