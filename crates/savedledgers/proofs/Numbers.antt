-- Runs of numbers in eight bytes each: what one turn of a loop owes that writes them.
use Prim.Native.Nat.{ℕ, ◌+◌, ◌*◌, ◌-◌, ◌≤◌, ◌<◌}
use mathlib.Core.Path.{◌≡◌, ap, ◌∙◌}
use mathlib.Core.List.{List, ◌++◌, append_assoc}
use native.Mathlib.Omega.{arith}
use native.Mathlib.Numerals.{add-one}
use borrow.Rule.Slice.PartMut.{put_mid, mid_of, mid_len}
use lib.ListN.{length, get_or, take, drop, length-append}
use lib.Seq.{drop-cons, length-take-le, take_at}
use Rattle.octets.specs.Digits.{to_little_endian}
use Rattle.octets.proofs.Digits.{length-to_little}
use Rattle.savedledgers.specs.Numbers.{number_bytes}

-- the number after those that are written
pub write-turn : (ns out ys : List ℕ) (i : ℕ) → i < length ns → 8 * i + 8 ≤ length out
    → ys ≡ to_little_endian 256 (length (mid_of (8 * i) (8 * i + 8 - 8 * i) out)) (get_or ns i 0)
    → take (8 * (i + 1)) (put_mid (8 * i) (8 * i + 8 - 8 * i) out ys) ++ number_bytes (drop (i + 1) ns)
    ≡ take (8 * i) out ++ number_bytes (drop i ns)
unfolding number_bytes
write-turn ns out ys i h g w =
    let a = 8 * i in
    let e : ys ≡ to_little_endian 256 8 (get_or ns i 0) = w ∙ ap (λ (k : ℕ). to_little_endian 256 k (get_or ns i 0)) (mid_len a (a + 8) out g ∙ omega arith) in
    let p = take a out in
    let t = drop (a + 8 - a) (drop a out) in
    let n : length (p ++ ys) ≡ 8 * (i + 1) =
    simp length-append (omega (arith, length-take-le a out (omega arith), ap length e, length-to_little 256 8 (get_or ns i 0))) in
    rw (← append_assoc p ys t, take_at (p ++ ys) t (8 * (i + 1)) n, drop-cons ns i 0 h, add-one i, e) (append_assoc p _ _)
