-- `totals::check_channels`: the channels passed, and those that are left, are all.
use mathlib.Core.Path.{◌≡◌}
use mathlib.Core.Bool.{true}
use Rattle.std.specs.Iterator.Adapters.{zip_first, zip_second}
use Rattle.std.specs.Slice.Iter.{iter_rest, chunks_exact_rest, chunks_exact_size}
use Rattle.ledger.specs.Ledger.{all_zero, pairs_of}
use Rattle.transfer.specs.Channel.{held_limit}
use Rattle.channelchecks.proofs.ChannelTotals.{Passed}
use Rattle.channelchecks.proofs.totals.check_channels.Given as goal

abbrev pub invariant-loop-k : goal.invariant-loop-k
invariant-loop-k l =
    let heads = zip_second l.k-iterator in
    (Passed (pairs_of l.ledger.entries.now) l.fn.t (iter_rest (zip_first l.k-iterator)) (chunks_exact_rest heads) l.totals)
    × (chunks_exact_size heads ≡ held_limit)
    × (l.clean ≡ true → all_zero (chunks_exact_rest heads) ≡ true)
