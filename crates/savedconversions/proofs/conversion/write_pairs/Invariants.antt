-- `conversion::write_pairs`: what is written, with what is still to be written after it, is the whole.
use Prim.Native.Nat.{◌*◌, ◌-◌, ◌/◌, ◌≤◌}
use mathlib.Core.Path.{◌≡◌}
use mathlib.Core.List.{◌++◌}
use lib.ListN.{length, take, drop}
use Rattle.savedrecords.specs.Record.{pairs_in, pair_bytes}
use Rattle.savedconversions.proofs.conversion.write_pairs.Given as goal

abbrev pub invariant-loop-k : goal.invariant-loop-k
invariant-loop-k l =
    let n = length l.pairs / 16 in
    let k = l.k-iterator.count in
    (k ≤ n) × (l.k-iterator.iter.size ≡ 16) × (l.k-iterator.iter.rest.now ≡ drop (16 * k) l.pairs) × (length l.out ≡ length l.initial.out)
    × (take (16 * k) l.out ++ pair_bytes l.to (pairs_in l.from (n - k) (drop (16 * k) l.pairs)) ≡ pair_bytes l.to (pairs_in l.from n l.pairs))
