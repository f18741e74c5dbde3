-- `ranges::list_text_length`: the bytes counted and those of the ranges that are left are all.
use Prim.Native.Nat.{◌+◌, ◌*◌, ◌≤◌}
use mathlib.Core.Path.{◌≡◌}
use lib.ListN.{length, drop}
use Rattle.rangelists.specs.RangeText.{ranges_text, pairs_in}
use Rattle.rangelists.proofs.RangeText.{list_from}
use Rattle.rangelists.proofs.ranges.list_text_length.Given as goal

abbrev pub invariant-loop-a : goal.invariant-loop-a
invariant-loop-a l =
    (l.n ≤ 42 * l.a-index) × (l.n + length (list_from l.n (pairs_in (drop l.a-index l.pairs))) ≡ length (ranges_text (pairs_in l.pairs)))
