-- `ranges::put_list`: the first n bytes of the text are written, and the rest of it is the ranges that are left.
use Prim.Native.Nat.{◌≤◌}
use mathlib.Core.Path.{◌≡◌}
use lib.ListN.{length, take, drop}
use lib.Seq.{sets}
use Rattle.rangelists.specs.RangeText.{ranges_text, pairs_in}
use Rattle.rangelists.proofs.RangeText.{list_from}
use Rattle.rangelists.proofs.ranges.put_list.Given as goal

abbrev pub invariant-loop-a : goal.invariant-loop-a
invariant-loop-a l =
    let text = ranges_text (pairs_in l.pairs) in
    (l.n ≤ length text) × (length text ≤ length l.out) × (drop l.n text ≡ list_from l.n (pairs_in (drop l.a-index l.pairs))) × (l.out ≡ sets l.initial.out 0 (take l.n text))
