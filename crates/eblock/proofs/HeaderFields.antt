-- The three fields of 17 bytes, there and back.
use Prim.Native.Nat.{ℕ, ◌^◌, ◌≤◌, ◌<◌}
use mathlib.Core.Path.{◌≡◌, sym, ◌∙◌}
use mathlib.Core.List.{List, ◌++◌}
use native.Mathlib.Omega.{arith}
use lib.ListN.{length, take, drop, length-append, length-take, length-drop, take-append-drop}
use lib.Seq.{drop-cons, drop-drop, take_at, drop_at, take_all}
use Rattle.octets.specs.Digits.{AllBelow, from_big_endian, to_big_endian}
use Rattle.octets.proofs.Digits.{length-to_big, below-take, below-drop, big_reads_back, big_writes_back}
use Rattle.eblock.specs.Header.{header_length, descriptor_of, second_of, third_of, header_bytes}

pub length-bytes_of : (d second third : ℕ) → length (header_bytes d second third) ≡ header_length
unfolding header_bytes
length-bytes_of d second third =
    let e : length (to_big_endian 256 8 second ++ to_big_endian 256 8 third) ≡ 16 =
    length-append (to_big_endian 256 8 second) (to_big_endian 256 8 third) ∙ rw (length-to_big 256 8 second, length-to_big 256 8 third) in
    omega (arith, e)

pub second-reads-back : (d second third : ℕ) → second < 2 ^ 64 → second_of (header_bytes d second third) ≡ second
unfolding second_of header_bytes
second-reads-back d second third h =
    rw (take_at (to_big_endian 256 8 second) (to_big_endian 256 8 third) 8 (length-to_big 256 8 second)) (big_reads_back 256 8 second (omega arith) h)

pub third-reads-back : (d second third : ℕ) → third < 2 ^ 64 → third_of (header_bytes d second third) ≡ third
unfolding third_of header_bytes
third-reads-back d second third h =
    let l : length (to_big_endian 256 8 third) ≤ 8 = omega (arith, length-to_big 256 8 third) in
    rw (drop_at (to_big_endian 256 8 second) (to_big_endian 256 8 third) 8 (length-to_big 256 8 second), take_all 8 (to_big_endian 256 8 third) l)
    (big_reads_back 256 8 third (omega arith) h)

-- eight bytes, read and written
eight : (bs : List ℕ) → AllBelow 256 bs → length bs ≡ 8 → to_big_endian 256 8 (from_big_endian 256 bs) ≡ bs
eight bs b n = rw n at (big_writes_back 256 bs b)

pub bytes-of-fields : (h : List ℕ) → AllBelow 256 h → length h ≡ header_length → header_bytes (descriptor_of h) (second_of h) (third_of h) ≡ h
unfolding header_bytes second_of third_of
bytes-of-fields h b n =
    let n₁ : length (take 8 (drop 1 h)) ≡ 8 = simp (length-take, length-drop) (omega arith) in
    let n₂ : length (take 8 (drop 9 h)) ≡ 8 = simp (length-take, length-drop) (omega arith) in
    let n₃ : length (drop 9 h) ≤ 8 = simp length-drop (omega arith) in
    let z : 0 < length h = omega arith in
    rw (
      eight (take 8 (drop 1 h)) (below-take 256 8 (drop 1 h) (below-drop 256 1 h b)) n₁,
      eight (take 8 (drop 9 h)) (below-take 256 8 (drop 9 h) (below-drop 256 9 h b)) n₂,
      take_all 8 (drop 9 h) n₃,
      ← drop-drop 8 1 h,
      take-append-drop 8 (drop 1 h),
    )
    (sym (drop-cons h 0 0 z))
