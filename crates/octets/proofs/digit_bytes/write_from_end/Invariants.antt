-- `digit_bytes::write_from_end`: what is still to be written, with what is written after it, is the whole.
use mathlib.Core.Path.{◌≡◌}
use mathlib.Core.List.{◌++◌, map}
use Prim.Native.Nat.{◌+◌}
use lib.ListN.{length, drop}
use Rattle.octets.specs.Digits.{to_big_endian}
use Rattle.octets.proofs.digit_bytes.write_from_end.Given as goal

abbrev pub invariant-loop-at : goal.invariant-loop-at
invariant-loop-at g l =
    map (λ d. g.row.ZERO + d) (to_big_endian g.row.BASE l.at l.rest) ++ drop l.at l.out
    ≡ map (λ d. g.row.ZERO + d) (to_big_endian g.row.BASE (length l.initial.out) l.n)
