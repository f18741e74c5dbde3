-- `little::read`: n is the number of the bytes passed, the first of them the most significant.
use mathlib.Core.Path.{◌≡◌}
use mathlib.Core.List.{map}
use Rattle.octets.specs.Digits.{from_big_endian}
use Rattle.octets.proofs.little.read.Given as goal

abbrev pub invariant-loop-b : goal.invariant-loop-b
invariant-loop-b l =
    (goal.iterator-loop-b).can_next l.b-iterator × (goal.iterator-loop-b).is_finite l.b-iterator × (l.n ≡ from_big_endian 256 (map (λ x. x.now) l.yielded))
