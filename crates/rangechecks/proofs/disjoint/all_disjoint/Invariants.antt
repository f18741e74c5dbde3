-- `disjoint::all_disjoint`: the ranges that are left decide.
use mathlib.Core.Path.{◌≡◌}
use lib.ListN.{length}
use Rattle.rangechecks.specs.Ranges.{all_disjoint, starts, lengths}
use Rattle.rangechecks.proofs.disjoint.all_disjoint.Given as goal

abbrev pub invariant-loop-rest : goal.invariant-loop-rest
invariant-loop-rest l = all_disjoint (starts l.rest) (lengths l.rest) ≡ all_disjoint (starts l.ranges) (lengths l.ranges)

abbrev pub decreases-loop-rest : goal.decreases-loop-rest
decreases-loop-rest l = length l.rest
