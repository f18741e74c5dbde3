-- `big::read`: n is the number of the bytes passed.
use mathlib.Core.Path.{◌≡◌}
use lib.ListN.{take}
use Rattle.octets.specs.Digits.{from_big_endian}
use Rattle.octets.proofs.big.read.Given as goal

abbrev pub invariant-loop-b : goal.invariant-loop-b
invariant-loop-b l = l.n ≡ from_big_endian 256 (take l.b-index l.first)
