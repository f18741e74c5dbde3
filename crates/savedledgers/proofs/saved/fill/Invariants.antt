-- `saved::fill`: the entries that have their pairs, with the pairs still to come after them, are the whole.
use Prim.Native.Nat.{◌*◌, ◌-◌, ◌/◌, ◌≤◌}
use mathlib.Core.Path.{◌≡◌}
use mathlib.Core.List.{◌++◌}
use lib.ListN.{length, take, drop}
use Rattle.ledger.specs.Ledger.{laid_out}
use Rattle.savedrecords.specs.Record.{pairs_in}
use Rattle.savedledgers.proofs.saved.fill.Given as goal

abbrev pub invariant-loop-k : goal.invariant-loop-k
invariant-loop-k l =
    let n = length l.pairs / 16 in
    let k = l.k-iterator.count in
    (k ≤ n) × (l.k-iterator.iter.size ≡ 16) × (l.k-iterator.iter.rest.now ≡ drop (16 * k) l.pairs) × (length l.entries ≡ length l.initial.entries)
    × (take (2 * k) l.entries ++ laid_out (n - k) (pairs_in l.second (n - k) (drop (16 * k) l.pairs)) ≡ laid_out n (pairs_in l.second n l.pairs))
