-- The frame of a saved ledger: judged case by case, and there and back.
use Prim.Native.Nat.{ℕ, ◌+◌, ◌-◌, ◌^◌, ◌≤◌, ◌<◌}
use mathlib.Core.Path.{◌≡◌}
use mathlib.Core.List.{List}
use native.Mathlib.Omega.{arith}
use native.Mathlib.Decide.{dec_le, ℕ_discrete}
use borrow.Author.Tests.{le-leb, lt-leb, eq-eqb, ne_eqb}
use lib.ListN.{length}
use Rattle.octets.specs.Digits.{AllBelow}
use Rattle.frames.specs.Frame.{field_length, frame_length, length_field, kind_of, body_of, framed}
use Rattle.frames.proofs.Framed.{framed_is, length-framed, length_field-frame_of, kind_of-frame_of, framed-same}
use Rattle.savedrecords.specs.Record.{frame_refusal}

-- ---- judged

pub frame-short : (kind : ℕ) (bytes : List ℕ) → length bytes < frame_length → frame_refusal kind bytes ≡ 61
unfolding frame_refusal
frame-short kind bytes h = rw (lt-leb frame_length (length bytes) h)

module _ (kind : ℕ) (bytes : List ℕ) (long : frame_length ≤ length bytes) where
  pub frame-length-wrong : (length_field bytes ≡ length bytes - field_length → ⊥) → frame_refusal kind bytes ≡ 61
  unfolding frame_refusal
  frame-length-wrong n = rw (le-leb frame_length (length bytes) long, ne_eqb (length_field bytes) (length bytes - field_length) n)

  pub frame-kind-wrong : length_field bytes ≡ length bytes - field_length → (kind_of bytes ≡ kind → ⊥) → frame_refusal kind bytes ≡ 62
  unfolding frame_refusal
  frame-kind-wrong e n =
      rw (le-leb frame_length (length bytes) long, eq-eqb (length_field bytes) (length bytes - field_length) e, ne_eqb (kind_of bytes) kind n)

  pub frame_right : length_field bytes ≡ length bytes - field_length → kind_of bytes ≡ kind → frame_refusal kind bytes ≡ 0
  unfolding frame_refusal
  frame_right e n =
      rw (le-leb frame_length (length bytes) long, eq-eqb (length_field bytes) (length bytes - field_length) e, eq-eqb (kind_of bytes) kind n)

-- a frame that is right, taken apart
pub frame_sound : (kind : ℕ) (bytes : List ℕ) → frame_refusal kind bytes ≡ 0
    → (frame_length ≤ length bytes) × (length_field bytes ≡ length bytes - field_length) × (kind_of bytes ≡ kind)
frame_sound kind bytes z = go (dec_le frame_length (length bytes)) (ℕ_discrete (length_field bytes) (length bytes - field_length)) (ℕ_discrete (kind_of bytes) kind)
  where
    go : Dec (frame_length ≤ length bytes) → Dec (length_field bytes ≡ length bytes - field_length) → Dec (kind_of bytes ≡ kind)
        → (frame_length ≤ length bytes) × (length_field bytes ≡ length bytes - field_length) × (kind_of bytes ≡ kind)
    go (yes h) (yes e) (yes k) = (h, e, k)
    go (yes h) (yes e) (no k) = absurd (omega (arith, frame-kind-wrong kind bytes h e k))
    go (yes h) (no e) d = absurd (omega (arith, frame-length-wrong kind bytes h e))
    go (no h) d d₂ = absurd (omega (arith, frame-short kind bytes (omega arith)))

-- ---- there and back

-- a record that was written has the right frame, where its kind and its length fit their fields
pub frame_back : (kind : ℕ) (body : List ℕ) → kind < 2 ^ 16 → 2 + length body < 2 ^ 32 → frame_refusal kind (framed kind body) ≡ 0
frame_back kind body h g =
    let e : length_field (framed kind body) ≡ 2 + length body = rw (framed_is kind body) (length_field-frame_of kind (length body) body g) in
    let k : kind_of (framed kind body) ≡ kind = rw (framed_is kind body) (kind_of-frame_of kind (length body) body h) in
    let l = length-framed kind body in
    frame_right kind (framed kind body) (omega (arith, l)) (omega (arith, e, l)) k

-- bytes whose frame is right are that frame and their body
pub frame_same : (kind : ℕ) (bytes : List ℕ) → AllBelow 256 bytes → frame_refusal kind bytes ≡ 0 → framed kind (body_of bytes) ≡ bytes
frame_same kind bytes b z =
    let f = frame_sound kind bytes z in
    rw (← f.2) (framed-same bytes b f.0 f.1)
