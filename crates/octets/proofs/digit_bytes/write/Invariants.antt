-- `digit_bytes::write`: what is written, with what is still to be written after it, is the whole.
use Prim.Native.Nat.{◌-◌, ◌+◌}
use mathlib.Core.Path.{◌≡◌}
use mathlib.Core.List.{◌++◌, map}
use lib.ListN.{length, take}
use Rattle.octets.specs.Digits.{to_little_endian}
use Rattle.octets.proofs.digit_bytes.write.Given as goal

abbrev pub invariant-loop-byte : goal.invariant-loop-byte
invariant-loop-byte g l =
    take l.byte-index l.out ++ map (λ d. g.row.ZERO + d) (to_little_endian g.row.BASE (length l.out - l.byte-index) l.rest)
    ≡ map (λ d. g.row.ZERO + d) (to_little_endian g.row.BASE (length l.initial.out) l.n)
