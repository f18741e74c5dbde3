-- The number by which a conversion is refused, case by case, what is known where there is none, and the bytes.
use Prim.Native.Nat.{ℕ, ◌+◌, ◌*◌, ◌/◌, ◌≤◌, ◌<◌}
use mathlib.Core.Path.{◌≡◌, refl, sym, ◌∙◌}
use mathlib.Core.Bool.{Bool, true, false}
use mathlib.Core.List.{List, ◌++◌, append_assoc}
use native.Mathlib.Omega.{arith}
use borrow.Rule.Slice.PartMut.{put_mid}
use lib.ListN.{length, drop, length-append, length-drop}
use Rattle.octets.specs.Digits.{AllBelow, to_little_endian}
use Rattle.octets.proofs.Digits.{length-to_little}
use Rattle.answers.specs.Written.{room_refusal}
use Rattle.answers.proofs.WrittenBy.{first_some, first-none, first-zero, room-short, room-enough, room-zero, refused, written}
use Rattle.std.specs.Prelude.{Ok, Err}
use Rattle.frames.specs.Frame.{body_of, frame_of}
use Rattle.frames.proofs.Framed.{framed_is, length-frame_of, length_field-lt}
use Rattle.ledger.specs.Pairs.{Pairs, size, ends_at_most}
use Rattle.savedrecords.specs.Kind.{head_length}
use Rattle.savedrecords.specs.Record.{pair_part, pair_bytes, saved_pairs, record_refusal, length_refusal, record_of}
use Rattle.savedrecords.specs.declared.kind.Kind.{Kind}
use Rattle.savedrecords.proofs.RecordPairs.{size-pairs_in}
use Rattle.savedrecords.proofs.RecordFrame.{frame_sound}
use Rattle.savedrecords.proofs.RecordRefusal.{refusal-sound}
use Rattle.savedrecords.proofs.RecordBytes.{length-body}
use Rattle.savedrecords.proofs.RecordRoundTrip.{length-record_of}
use Rattle.savedconversions.specs.Conversion.{convert_refusal, convert, convert_after}
use Rattle.savedconversions.proofs.Parts.{behind}

-- ---- the number

module _ (from to : Kind) (f : ℕ) (bytes out : List ℕ) where
  pub number-record : 0 < record_refusal from bytes → convert_refusal from to f bytes out ≡ record_refusal from bytes
  unfolding convert_refusal
  number-record h = first_some (record_refusal from bytes) _ h

  module _ (right : record_refusal from bytes ≡ 0) where
    pub number-65 : ends_at_most f (saved_pairs from bytes) ≡ false → convert_refusal from to f bytes out ≡ 65
    unfolding convert_refusal length_refusal
    number-65 e = first-none (record_refusal from bytes) _ right ∙ rw e (first_some 65 _ (omega arith))

    module _ (ends : ends_at_most f (saved_pairs from bytes) ≡ true) where
      only-room : convert_refusal from to f bytes out ≡ room_refusal (6 + (head_length to + 16 * size (saved_pairs from bytes))) out
      unfolding convert_refusal length_refusal
      only-room =
          first-none (record_refusal from bytes) _ right
          ∙ rw (ends, length-record_of to f (saved_pairs from bytes)) (first-none 0 (room_refusal (6 + (head_length to + 16 * size (saved_pairs from bytes))) out) refl)

      pub number-55 : length out < 6 + (head_length to + 16 * size (saved_pairs from bytes)) → convert_refusal from to f bytes out ≡ 55
      number-55 h = only-room ∙ room-short _ out h

      pub number_0 : 6 + (head_length to + 16 * size (saved_pairs from bytes)) ≤ length out → convert_refusal from to f bytes out ≡ 0
      number_0 h = only-room ∙ room-enough _ out h

-- what a conversion that is not refused has tested
pub record Sound (from to : Kind) (f : ℕ) (bytes out : List ℕ) : Type 0 where
  pub right : record_refusal from bytes ≡ 0
  pub ends : ends_at_most f (saved_pairs from bytes) ≡ true
  pub room : 6 + (head_length to + 16 * size (saved_pairs from bytes)) ≤ length out

ends-true : (f : ℕ) (ps : Pairs) → length_refusal f ps ≡ 0 → ends_at_most f ps ≡ true
unfolding length_refusal
ends-true f ps z = go (ends_at_most f ps) refl (length_refusal f ps) refl z
  where
    go : (t : Bool) → ends_at_most f ps ≡ t → (k : ℕ) → length_refusal f ps ≡ k → k ≡ 0 → t ≡ true
    go true e k d z₂ = refl
    go false e k d z₂ = absurd (omega (arith, z₂, rw e at d))

pub number-sound : (from to : Kind) (f : ℕ) (bytes out : List ℕ) → convert_refusal from to f bytes out ≡ 0 → Sound from to f bytes out
unfolding convert_refusal
number-sound from to f bytes out z =
    let ps = saved_pairs from bytes in
    let a = first-zero (record_refusal from bytes) _ z in
    let b = first-zero (length_refusal f ps) (room_refusal (length (record_of to f ps)) out) a.1 in
    record { right = a.0; ends = ends-true f ps b.0; room = omega (arith, room-zero (length (record_of to f ps)) out b.1, length-record_of to f ps) }

-- ---- the bytes

-- the pairs are all of the part
pub part_length : (kind : Kind) (bytes : List ℕ) → record_refusal kind bytes ≡ 0 → length (pair_part kind bytes) ≡ 16 * size (saved_pairs kind bytes)
part_length kind bytes right =
    let part = pair_part kind bytes in
    omega (arith, (refusal-sound kind bytes right).parts, size-pairs_in kind.second (length part / 16) part)

-- so few bytes that any kind's length field holds them
pub part-few : (kind : Kind) (bytes : List ℕ) → AllBelow 256 bytes → record_refusal kind bytes ≡ 0 → length (pair_part kind bytes) < 4294967286
part-few kind bytes below right =
    let s = refusal-sound kind bytes right in
    let f = frame_sound kind.number bytes s.frame in
    omega (arith, s.parts, f, length_field-lt bytes below, length-drop 6 bytes, length-drop (head_length kind) (body_of bytes))

pub record_of-is : (kind : Kind) (f : ℕ) (ps : Pairs)
    → record_of kind f ps ≡ (frame_of kind.number (head_length kind + 16 * size ps) ++ to_little_endian 256 (head_length kind) f) ++ pair_bytes kind.second ps
unfolding record_of
record_of-is kind f ps =
    framed_is kind.number _ ∙ rw (length-body kind f ps)
    (sym (append_assoc (frame_of kind.number (head_length kind + 16 * size ps)) (to_little_endian 256 (head_length kind) f) (pair_bytes kind.second ps)))

-- how long that is which comes before the pairs
pub length-head : (kind : Kind) (f n : ℕ) → length (frame_of kind.number n ++ to_little_endian 256 (head_length kind) f) ≡ 6 + head_length kind
length-head kind f n =
    rw (length-append (frame_of kind.number n) (to_little_endian 256 (head_length kind) f), length-frame_of kind.number n, length-to_little 256 (head_length kind) f)

-- o is the lent bytes after all that comes before the pairs, zs the pairs
pub record-placed : (kind : Kind) (f : ℕ) (ps : Pairs) (out o zs : List ℕ) (n : ℕ) → n ≡ 16 * size ps
    → o ≡ (frame_of kind.number (head_length kind + n) ++ to_little_endian 256 (head_length kind) f) ++ drop (6 + head_length kind) out → zs ≡ pair_bytes kind.second ps
    → put_mid (6 + head_length kind) n o zs ≡ record_of kind f ps ++ drop (length (record_of kind f ps)) out
record-placed kind f ps out o zs n e front z =
    let head = frame_of kind.number (head_length kind + n) ++ to_little_endian 256 (head_length kind) f in
    let whole : head ++ zs ≡ record_of kind f ps = rw (e, z) (sym (record_of-is kind f ps)) in
    let long : 6 + head_length kind + n ≡ length (record_of kind f ps) = omega (arith, length-record_of kind f ps) in
    behind out o head zs (6 + head_length kind) n front (length-head kind f (head_length kind + n)) ∙ rw (whole, long)

-- ---- the answer and the lent bytes

module _ (from to : Kind) (f : ℕ) (bytes out : List ℕ) where
  pub converts-refused : (k : ℕ) → convert_refusal from to f bytes out ≡ k → 0 < k → (Err k ≡ convert from to f bytes out) × (out ≡ convert_after from to f bytes out)
  unfolding convert convert_after
  converts-refused k e h = refused (convert_refusal from to f bytes out) _ (record_of to f (saved_pairs from bytes)) out k e h

  pub converts-written : convert_refusal from to f bytes out ≡ 0 → let text = record_of to f (saved_pairs from bytes) in
      (Ok (length text) ≡ convert from to f bytes out) × (text ++ drop (length text) out ≡ convert_after from to f bytes out)
  unfolding convert convert_after
  converts-written e = written (convert_refusal from to f bytes out) _ (record_of to f (saved_pairs from bytes)) out e
