-- A record's bytes, and `RecordRoundTrip` holds.
use Prim.Native.Nat.{ℕ, ◌+◌, ◌*◌, ◌/◌, ◌%◌, ◌^◌, ◌≤◌, ◌<◌}
use mathlib.Core.Path.{◌≡◌, refl, ap, ◌∙◌}
use mathlib.Core.Bool.{Bool, true, false, cond}
use mathlib.Core.List.{List, ◌++◌}
use native.Mathlib.Omega.{arith}
use lib.ListN.{length, take, take-append-drop}
use lib.Seq.{drop_at}
use Rattle.octets.specs.Digits.{AllBelow, from_little_endian, to_little_endian}
use Rattle.octets.proofs.Digits.{length-to_little, below-drop}
use Rattle.frames.specs.Frame.{body_of}
use Rattle.frames.proofs.Framed.{body-framed, length-framed}
use Rattle.ledger.specs.Pairs.{Pairs, size, ObeyFrom, ends_at_most}
use Rattle.ledger.specs.Ledger.{largest}
use Rattle.ledger.proofs.PairsObey.{ruled-obey_from}
use Rattle.savedrecords.specs.Kind.{head_length}
use Rattle.savedrecords.specs.Record.{pair_bytes, pair_part, file_length_of, saved_pairs, record_refusal, record_of}
use Rattle.savedrecords.specs.RecordRoundTrip.{RecordRoundTrip}
use Rattle.savedrecords.specs.declared.kind.Kind.{Kind}
use Rattle.savedrecords.proofs.RecordPairs.{length-pair_bytes, pairs_in-pair_bytes, pair_bytes-pairs_in, eight-back, eight-same}
use Rattle.savedrecords.proofs.RecordFrame.{frame_back, frame_same}
use Rattle.savedrecords.proofs.RecordRefusal.{refusal-sound, refusal-none}
use Rattle.savedrecords.proofs.RecordBytes.{length-body}

-- ---- written and read

module _ (kind : Kind) (f : ℕ) (ps : Pairs) where
  pub length-record_of : length (record_of kind f ps) ≡ 6 + (head_length kind + 16 * size ps)
  unfolding record_of
  length-record_of = length-framed kind.number _ ∙ rw (length-body kind f ps)

  body-record_of : body_of (record_of kind f ps) ≡ to_little_endian 256 (head_length kind) f ++ pair_bytes kind.second ps
  unfolding record_of
  body-record_of = body-framed kind.number _

  part-record_of : pair_part kind (record_of kind f ps) ≡ pair_bytes kind.second ps
  part-record_of = rw body-record_of (drop_at (to_little_endian 256 (head_length kind) f) (pair_bytes kind.second ps) (head_length kind) (length-to_little 256 (head_length kind) f))

  -- how many pairs its bytes are
  pub size-record_of : length (pair_part kind (record_of kind f ps)) / 16 ≡ size ps
  size-record_of = omega (arith, ap length part-record_of, length-pair_bytes kind.second ps)

  module _ (ruled : ObeyFrom 0 ps) (ends : ends_at_most largest ps ≡ true) where
    pub pairs-record_of : saved_pairs kind (record_of kind f ps) ≡ ps
    pairs-record_of =
        let n : length (pair_bytes kind.second ps) / 16 ≡ size ps = omega (arith, length-pair_bytes kind.second ps) in
        rw (part-record_of, n) (pairs_in-pair_bytes kind.second 0 ps ruled ends)

    pub refusal-record_of : kind.number < 2 ^ 16 → 2 + (head_length kind + 16 * size ps) < 2 ^ 32 → record_refusal kind (record_of kind f ps) ≡ 0
    unfolding record_of
    refusal-record_of k h =
        let r = record_of kind f ps in
        let frame = frame_back kind.number (to_little_endian 256 (head_length kind) f ++ pair_bytes kind.second ps) k (omega (arith, length-body kind f ps)) in
        let head : head_length kind ≤ length (body_of r) = omega (arith, ap length body-record_of, length-body kind f ps) in
        let parts : length (pair_part kind r) % 16 ≡ 0 = omega (arith, ap length part-record_of, length-pair_bytes kind.second ps) in
        refusal-none kind r frame head parts (rw pairs-record_of (ruled-obey_from 0 ps ruled))

  pub length_back : kind.sized ≡ true → f < 2 ^ 64 → file_length_of (record_of kind f ps) ≡ f
  unfolding file_length_of
  length_back s h = rw (body-record_of, s) (eight-back f (pair_bytes kind.second ps) h)

-- ---- read and written

module _ (kind : Kind) (bytes : List ℕ) (below : AllBelow 256 bytes) (accepted : record_refusal kind bytes ≡ 0) where
  -- with any file length that the bytes before the pairs say
  pub record_same : (f : ℕ) → to_little_endian 256 (head_length kind) f ≡ take (head_length kind) (body_of bytes) → record_of kind f (saved_pairs kind bytes) ≡ bytes
  unfolding record_of
  record_same f e =
      let s = refusal-sound kind bytes accepted in
      let part = pair_part kind bytes in
      let n : length part ≡ 16 * (length part / 16) = omega (arith, s.parts) in
      let below-part = below-drop 256 (head_length kind) (body_of bytes) (below-drop 256 6 bytes below) in
      rw (pair_bytes-pairs_in kind.second (length part / 16) part below-part n, e, take-append-drop (head_length kind) (body_of bytes))
      (frame_same kind.number bytes below s.frame)

  pub head-same : to_little_endian 256 (head_length kind) (file_length_of bytes) ≡ take (head_length kind) (body_of bytes)
  unfolding file_length_of to_little_endian
  head-same = go kind.sized (refusal-sound kind bytes accepted).head
    where
      go : (t : Bool) → cond t 8 0 ≤ length (body_of bytes) → to_little_endian 256 (cond t 8 0) (from_little_endian 256 (take 8 (body_of bytes))) ≡ take (cond t 8 0) (body_of bytes)
      go true h = eight-same (body_of bytes) (below-drop 256 6 bytes below) h
      go false h = refl

pub record-round-trip : RecordRoundTrip
record-round-trip =
    record {
      reads_what_was_written = λ kind f ps k h ruled ends. (refusal-record_of kind f ps ruled ends (omega arith) (omega arith), pairs-record_of kind f ps ruled ends);
      reads_the_length = λ kind f ps s h. length_back kind f ps s (omega arith);
      writes_what_was_read = λ kind bytes below accepted. record_same kind bytes below accepted (file_length_of bytes) (head-same kind bytes below accepted);
    }
