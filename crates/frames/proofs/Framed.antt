-- The frame of a record: its parts in lent bytes, written, and there and back.
use Prim.Native.Nat.{ℕ, ◌+◌, ◌-◌, ◌^◌, ◌≤◌, ◌<◌, min}
use mathlib.Core.Path.{◌≡◌, sym, ap, ◌∙◌}
use mathlib.Core.List.{List, ◌++◌, append_assoc}
use native.Mathlib.Omega.{arith}
use native.Mathlib.Nat.{pow-le-pow_right}
use native.Mathlib.Decide.{dec_le}
use borrow.Rule.Slice.PartMut.{put_mid}
use lib.ListN.{length, take, drop, length-append, length-take, length-drop, drop_of_length-le, take-append-drop}
use lib.Seq.{take_all, take-length, drop-length, take-append-le, take_at, drop_at, drop-drop}
use Rattle.octets.specs.Digits.{AllBelow, from_little_endian, to_little_endian}
use Rattle.octets.proofs.Digits.{length-to_little, below-take, below-drop, from_little-lt, little_reads_back, little_writes_back}
use Rattle.answers.specs.Written.{room_refusal, written_after}
use Rattle.answers.proofs.WrittenBy.{room-enough, written}
use Rattle.frames.specs.Frame.{field_length, frame_length, length_field, kind_of, body_of, frame_of, framed}

-- ---- its parts, where there may be too few bytes for them

-- what is the same from m on is so at the less of n and m
min-same : (n m : ℕ) (f : ℕ → List ℕ) → (m ≤ n → f m ≡ f n) → f (min n m) ≡ f n
min-same n m f same = go (dec_le n m)
  where
    go : Dec (n ≤ m) → f (min n m) ≡ f n
    go (yes h) = ap f (omega arith)
    go (no h) =
        let e : min n m ≡ m = omega arith in
        ap f e ∙ same (omega arith)

take_within : (n : ℕ) (bytes : List ℕ) → take (min n (length bytes)) bytes ≡ take n bytes
take_within n bytes = min-same n (length bytes) (λ k. take k bytes) (λ h. take-length bytes ∙ sym (take_all n bytes h))

drop-within : (n : ℕ) (bytes : List ℕ) → drop (min n (length bytes)) bytes ≡ drop n bytes
drop-within n bytes = min-same n (length bytes) (λ k. drop k bytes) (λ h. drop-length bytes ∙ sym (drop_of_length-le bytes h))

-- the length field and the kind as they are read, eight bytes at most
pub length_field-read : (bytes : List ℕ) → from_little_endian 256 (take 8 (take (min field_length (length bytes)) bytes)) ≡ length_field bytes
unfolding length_field
length_field-read bytes = rw (take_within 4 bytes) (ap (from_little_endian 256) (take_all 8 (take 4 bytes) (simp length-take (omega arith))))

pub kind_of-read : (bytes : List ℕ) → let from = min field_length (length bytes) in
    from_little_endian 256 (take 8 (take (min frame_length (length bytes) - from) (drop from bytes))) ≡ kind_of bytes
unfolding kind_of
kind_of-read bytes =
    let rest = drop 4 bytes in
    let e : min 6 (length bytes) - min 4 (length bytes) ≡ min 2 (length rest) = rw (length-drop 4 bytes) (omega arith) in
    rw (e, drop-within 4 bytes, take_within 2 rest) (ap (from_little_endian 256) (take_all 8 (take 2 rest) (simp length-take (omega arith))))

-- four bytes say less than 2 ^ 32
pub length_field-lt : (bytes : List ℕ) → AllBelow 256 bytes → length_field bytes < 2 ^ 32
unfolding length_field
length_field-lt bytes b =
    let field = take 4 bytes in
    let n : length field ≤ 4 = simp length-take (omega arith) in
    omega (arith, from_little-lt 256 field (below-take 256 4 bytes b), pow-le-pow_right {n = 256} (omega arith) {i = length field} {j = 4} n)

-- more bytes after it change nothing
pub length_field-append : (a b : List ℕ) → field_length ≤ length a → length_field (a ++ b) ≡ length_field a
unfolding length_field
length_field-append a b h = rw (take-append-le field_length a b h)

-- ---- written

pub length-frame_of : (kind n : ℕ) → length (frame_of kind n) ≡ frame_length
unfolding frame_of
length-frame_of kind n =
    length-append (to_little_endian 256 4 (2 + n)) (to_little_endian 256 2 kind) ∙ rw (length-to_little 256 4 (2 + n), length-to_little 256 2 kind)

pub framed_is : (kind : ℕ) (body : List ℕ) → framed kind body ≡ frame_of kind (length body) ++ body
unfolding framed frame_of
framed_is kind body = sym (append_assoc (to_little_endian 256 4 (2 + length body)) (to_little_endian 256 2 kind) body)

pub length-framed : (kind : ℕ) (body : List ℕ) → length (framed kind body) ≡ frame_length + length body
length-framed kind body = rw (framed_is kind body, length-append (frame_of kind (length body)) body, length-frame_of kind (length body))

-- ys and zs are the first two parts of the lent bytes, the length field and the kind
pub frame-placed : (kind n : ℕ) (out ys zs : List ℕ) → ys ≡ to_little_endian 256 4 (2 + n) → zs ≡ to_little_endian 256 2 kind
    → put_mid 4 2 (put_mid 0 4 out ys) zs ≡ frame_of kind n ++ drop frame_length out
unfolding frame_of
frame-placed kind n out ys zs e g =
    let s = to_little_endian 256 4 (2 + n) in
    let t = to_little_endian 256 2 kind in
    let l : length s ≡ 4 = length-to_little 256 4 (2 + n) in
    rw (e, g, take_at s (drop 4 out) 4 l, drop_at s (drop 4 out) 4 l, drop-drop 2 4 out) (sym (append_assoc s t (drop 6 out)))

-- the lent bytes after a frame was written into them
pub frame-written : (kind n : ℕ) (out : List ℕ) → frame_length ≤ length out
    → written_after (room_refusal frame_length out) (frame_of kind n) out ≡ frame_of kind n ++ drop frame_length out
frame-written kind n out h =
    rw (length-frame_of kind n) at (sym (written (room_refusal frame_length out) frame_length (frame_of kind n) out (room-enough frame_length out h)).1)

-- ---- there and back

-- a length that fits its four bytes, and a kind that fits its two
module _ (kind n : ℕ) (rest : List ℕ) where
  pub length_field-frame_of : 2 + n < 2 ^ 32 → length_field (frame_of kind n ++ rest) ≡ 2 + n
  unfolding length_field frame_of
  length_field-frame_of h =
      let s = to_little_endian 256 4 (2 + n) in
      let t = to_little_endian 256 2 kind in
      rw (append_assoc s t rest, take_at s (t ++ rest) 4 (length-to_little 256 4 (2 + n))) (little_reads_back 256 4 (2 + n) (omega arith) h)

  pub kind_of-frame_of : kind < 2 ^ 16 → kind_of (frame_of kind n ++ rest) ≡ kind
  unfolding kind_of frame_of
  kind_of-frame_of h =
      let s = to_little_endian 256 4 (2 + n) in
      let t = to_little_endian 256 2 kind in
      rw (append_assoc s t rest, drop_at s (t ++ rest) 4 (length-to_little 256 4 (2 + n)), take_at t rest 2 (length-to_little 256 2 kind))
      (little_reads_back 256 2 kind (omega arith) h)

-- a record before other bytes
pub framed-before : (kind : ℕ) (body rest : List ℕ) → framed kind body ++ rest ≡ frame_of kind (length body) ++ (body ++ rest)
framed-before kind body rest = rw (framed_is kind body) (append_assoc (frame_of kind (length body)) body rest)

pub kind-framed : (kind : ℕ) (body rest : List ℕ) → kind < 2 ^ 16 → kind_of (framed kind body ++ rest) ≡ kind
kind-framed kind body rest h = rw (framed-before kind body rest) (kind_of-frame_of kind (length body) (body ++ rest) h)

pub body-framed : (kind : ℕ) (body : List ℕ) → body_of (framed kind body) ≡ body
body-framed kind body = rw (framed_is kind body) (drop_at (frame_of kind (length body)) body frame_length (length-frame_of kind (length body)))

-- bytes whose length field says how many follow it are the record of their kind and body
pub framed-same : (bytes : List ℕ) → AllBelow 256 bytes → frame_length ≤ length bytes → length_field bytes ≡ length bytes - field_length
    → framed (kind_of bytes) (body_of bytes) ≡ bytes
unfolding length_field kind_of framed
framed-same bytes b h e =
    let n : length (take 4 bytes) ≡ 4 = simp length-take (omega arith) in
    let n₂ : length (take 2 (drop 4 bytes)) ≡ 2 = simp (length-take, length-drop) (omega arith) in
    let l : 2 + length (drop 6 bytes) ≡ from_little_endian 256 (take 4 bytes) = simp length-drop (omega arith) in
    let s : to_little_endian 256 4 (from_little_endian 256 (take 4 bytes)) ≡ take 4 bytes = rw n at (little_writes_back 256 (take 4 bytes) (below-take 256 4 bytes b)) in
    let t : to_little_endian 256 2 (from_little_endian 256 (take 2 (drop 4 bytes))) ≡ take 2 (drop 4 bytes) =
    rw n₂ at (little_writes_back 256 (take 2 (drop 4 bytes)) (below-take 256 2 (drop 4 bytes) (below-drop 256 4 bytes b))) in
    rw (l, s, t, ← drop-drop 2 4 bytes, take-append-drop 2 (drop 4 bytes), take-append-drop 4 bytes)
