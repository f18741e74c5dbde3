-- `digit_bytes::write`: what is written, with what is still to be written after it, is the whole.
use Prim.Native.Nat.{ℕ, suc, ◌+◌, ◌-◌, ◌/◌, ◌%◌, ◌<◌}
use mathlib.Core.Path.{◌≡◌, sym, ◌∙◌}
use mathlib.Core.List.{List, ◌++◌, map, append-nil}
use native.Mathlib.Omega.{arith}
use native.Mathlib.Numerals.{add-one}
use lib.ListN.{length, set, take, length-set}
use lib.Seq.{take-length}
use Rattle.octets.specs.Digits.{to_little_endian}
use Rattle.octets.proofs.LoopStep.{stored-after}
use Rattle.octets.proofs.digit_bytes.write.Goals as goal

-- the byte after those that are written
turn : (B shift : ℕ) (out : List ℕ) (i m : ℕ) → i < length out → let digit = λ (d : ℕ). shift + d in
    take (i + 1) (set out i (digit (m % B))) ++ map digit (to_little_endian B (length (set out i (digit (m % B))) - (i + 1)) (m / B))
    ≡ take i out ++ map digit (to_little_endian B (length out - i) m)
unfolding to_little_endian
turn B shift out i m h =
    let v = shift + m % B in
    let e : length out - i ≡ suc (length out - (i + 1)) = omega arith in
    rw (length-set out i v, e, add-one i) (stored-after (map (λ d. shift + d) (to_little_endian B (length out - suc i) (m / B))) out v i h)

pub loop-byte-preserved : goal.loop-byte-preserved
loop-byte-preserved g c =
    rw (c.last_digit.ensures.0, c.last_digit.ensures.1)
    (turn g.row.BASE g.row.ZERO c.loop-byte.out c.loop-byte.byte-index c.loop-byte.rest (omega arith) ∙ c.loop-byte.invariant)

pub returns : goal.returns
unfolding to_little_endian
returns g c =
    let e : c.loop-byte.byte-index ≡ length c.loop-byte.out = omega arith in
    let z : length c.loop-byte.out - length c.loop-byte.out ≡ 0 = omega arith in
    sym (append-nil c.loop-byte.out) ∙ (rw (e, z, take-length c.loop-byte.out) at c.loop-byte.invariant)
