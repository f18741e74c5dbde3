-- What one turn of a loop owes that reads or writes a number digit by digit, on plain lists and numbers.
use Prim.Native.Nat.{ℕ, suc, ◌+◌, ◌*◌, ◌≤◌, ◌<◌, min}
use mathlib.Core.Path.{◌≡◌, refl, sym, ◌∙◌}
use mathlib.Core.List.{List, [], ◌∷◌, ◌++◌, map, map-append, reverse, reverse-cons}
use native.Mathlib.Omega.{arith}
use native.Mathlib.Numerals.{add-one}
use native.Mathlib.Nat.{pow-le-pow_right}
use lib.ListN.{length, get_or, set, take, length-take}
use lib.Seq.{take-suc, take-take, take-length, length-take-le, take-suc-set, append_snoc}
use Rattle.octets.specs.Digits.{AllBelow, from_big_endian}
use Rattle.octets.proofs.Digits.{from_big-snoc, from_big-lt, below-take}

-- ---- reading

-- the number of one digit more
pub big_more : (B : ℕ) (s : List ℕ) (i : ℕ) → i < length s → from_big_endian B (take (i + 1) s) ≡ from_big_endian B (take i s) * B + get_or s i 0
big_more B s i h = rw (add-one i, take-suc s i 0) (from_big-snoc B (get_or s i 0) (take i s))

-- eight bytes have room for it
pub room : (s : List ℕ) (i : ℕ) → AllBelow 256 s → length s ≤ 8 → i < length s → from_big_endian 256 (take i s) * 256 + get_or s i 0 < 18446744073709551616
room s i b h l =
    let n : length (take (i + 1) s) ≡ i + 1 = length-take-le (i + 1) s (omega arith) in
    let f = rw n at (from_big-lt 256 (take (i + 1) s) (below-take 256 (i + 1) s b)) in
    omega (arith, big_more 256 s i l, f, pow-le-pow_right {n = 256} (omega arith) {i = i + 1} {j = 8} (omega arith))

-- as many as there are, up to eight, are the first eight
pub take-eight : (s : List ℕ) (i : ℕ) → i ≡ min (length s) 8 → take i s ≡ take 8 s
take-eight s i e =
    let l : i ≡ length (take 8 s) = simp length-take (omega arith) in
    sym (take-take i 8 s (omega arith)) ∙ rw l (take-length (take 8 s))

-- ---- writing

-- v stored at j, after what is before j
pub stored-after : (p out : List ℕ) (v j : ℕ) → j < length out → take (suc j) (set out j v) ++ p ≡ take j out ++ (v ∷ p)
stored-after p out v j h = rw (take-suc-set out j v) (append_snoc (take j out) v p)
