-- Pairs written one after the other: what one turn of the loop owes.
use Prim.Native.Nat.{ℕ, suc, ◌+◌, ◌*◌, ◌-◌, ◌≤◌, ◌<◌}
use mathlib.Core.Path.{◌≡◌, ap, ◌∙◌}
use mathlib.Core.List.{List, ◌++◌, append_assoc}
use native.Mathlib.Omega.{arith}
use borrow.Rule.Slice.PartMut.{put_mid}
use lib.ListN.{length, take, drop, length-append}
use lib.Seq.{drop-drop, length-take-le, take_at}
use Rattle.octets.specs.Digits.{to_little_endian}
use Rattle.octets.proofs.Digits.{length-to_little}
use Rattle.savedrecords.specs.Kind.{second_of}
use Rattle.savedrecords.specs.Record.{start_in, end_in, pairs_in, pair_bytes}
use Rattle.savedrecords.specs.declared.kind.SecondNumber.{SecondNumber}

-- the pair after those that are written
pub write-turn : (from to : SecondNumber) (bytes out ys : List ℕ) (n k a e : ℕ) → k < n → 16 * k + 16 ≤ length out → let part = drop (16 * k) bytes in
    a ≡ start_in part → e ≡ end_in from part → ys ≡ to_little_endian 256 8 a ++ to_little_endian 256 8 (second_of to a e)
    → take (16 * (k + 1)) (put_mid (16 * k) (16 * k + 16 - 16 * k) out ys) ++ pair_bytes to (pairs_in from (n - (k + 1)) (drop (16 * (k + 1)) bytes))
    ≡ take (16 * k) out ++ pair_bytes to (pairs_in from (n - k) part)
unfolding pair_bytes pairs_in
write-turn from to bytes out ys n k a e h g s t w =
    let at = 16 * k in
    let p = take at out in
    let r = drop (at + 16 - at) (drop at out) in
    let x = to_little_endian 256 8 a in
    let y = to_little_endian 256 8 (second_of to a e) in
    let m : n - k ≡ suc (n - (k + 1)) = omega arith in
    let q : 16 * (k + 1) ≡ at + 16 = omega arith in
    let l : length (p ++ ys) ≡ 16 * (k + 1) =
    simp length-append (omega (arith, length-take-le at out (omega arith), ap length w, length-append x y, length-to_little 256 8 a, length-to_little 256 8 (second_of to a e))) in
    rw (← append_assoc p ys r, take_at (p ++ ys) r (16 * (k + 1)) l, m, q, ← drop-drop 16 at bytes, ← t, ← s, w)
    (append_assoc p (x ++ y) _ ∙ ap (λ z. p ++ z) (append_assoc x y _))
