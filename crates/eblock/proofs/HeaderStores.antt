-- A header put into lent bytes in three stores: its descriptor, its second field and its third.
use Prim.Native.Nat.{ℕ, ◌≤◌}
use mathlib.Core.Path.{◌≡◌, sym, ap}
use mathlib.Core.List.{List, [], ◌∷◌, ◌++◌, append_assoc}
use native.Mathlib.Omega.{arith}
use borrow.Rule.Slice.PartMut.{put_mid}
use lib.ListN.{length, set, drop}
use lib.Seq.{take_at, drop_at, drop-drop}
use Rattle.octets.specs.Digits.{to_big_endian}
use Rattle.octets.proofs.Digits.{length-to_big}
use Rattle.eblock.specs.Header.{header_length, header_bytes}

-- ys and zs are the two parts of eight bytes
pub placed : (d second third : ℕ) (out ys zs : List ℕ) → header_length ≤ length out → ys ≡ to_big_endian 256 8 second → zs ≡ to_big_endian 256 8 third
    → put_mid 9 8 (put_mid 1 8 (set out 0 d) ys) zs ≡ header_bytes d second third ++ drop header_length out
unfolding header_bytes
placed d second third [] ys zs h e g = absurd (omega arith)
placed d second third (x ∷ rest) ys zs h e g =
    let s = to_big_endian 256 8 second in
    let t = to_big_endian 256 8 third in
    let n : length s ≡ 8 = length-to_big 256 8 second in
    rw (e, g, take_at s (drop 8 rest) 8 n, drop_at s (drop 8 rest) 8 n, drop-drop 8 8 rest)
    (ap (λ l. d ∷ l) (sym (append_assoc s t (drop 16 rest))))
