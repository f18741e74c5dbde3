-- `digit_bytes::write_from_end`: what is still to be written, with what is written after it, is the whole.
use Prim.Native.Nat.{ℕ, zero, suc, ◌+◌, ◌-◌, ◌/◌, ◌%◌, ◌≤◌, ◌<◌}
use mathlib.Core.Path.{◌≡◌, sym, ◌∙◌}
use mathlib.Core.List.{List, [], ◌∷◌, ◌++◌, map, map-append}
use native.Mathlib.Omega.{arith}
use native.Mathlib.Numerals.{add-one}
use lib.ListN.{length, set, drop}
use lib.Seq.{append_snoc}
use Rattle.std.proofs.lemmas.List.{drop-set}
use Rattle.octets.specs.Digits.{to_big_endian, to_little_endian}
use Rattle.octets.proofs.Digits.{to_big-suc}
use Rattle.octets.proofs.digit_bytes.write_from_end.Goals as goal

-- the byte before those that are written
turn : (B shift : ℕ) (out : List ℕ) (at m : ℕ) → 0 < at → at ≤ length out → let digit = λ (d : ℕ). shift + d in
    map digit (to_big_endian B (at - 1) (m / B)) ++ drop (at - 1) (set out (at - 1) (digit (m % B)))
    ≡ map digit (to_big_endian B at m) ++ drop at out
turn B shift out zero m s h = absurd (omega arith)
turn B shift out (suc j) m s h =
    let digit = λ (d : ℕ). shift + d in
    let before = to_big_endian B j (m / B) in
    let e : suc j - 1 ≡ j = omega arith in
    rw (e, drop-set out j (shift + m % B) (omega arith), add-one j, to_big-suc B j m, map-append digit before (m % B ∷ []))
    (sym (append_snoc (map digit before) (shift + m % B) (drop (suc j) out)))

pub loop-at-preserved : goal.loop-at-preserved
loop-at-preserved g c =
    rw (c.last_digit.ensures.0, c.last_digit.ensures.1)
    (turn g.row.BASE g.row.ZERO c.loop-at.out c.loop-at.at c.loop-at.rest (omega arith) (omega arith) ∙ c.loop-at.invariant)

pub returns : goal.returns
unfolding to_big_endian to_little_endian
returns g c =
    let e : c.loop-at.at ≡ 0 = omega arith in
    rw e at c.loop-at.invariant
