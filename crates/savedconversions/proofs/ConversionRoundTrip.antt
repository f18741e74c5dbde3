-- A record converted and converted back, from any kind to any kind.
use Prim.Native.Nat.{ℕ, ◌+◌, ◌*◌, ◌^◌, ◌≤◌, ◌<◌}
use mathlib.Core.Path.{◌≡◌, sym, ap, ◌∙◌}
use mathlib.Core.Bool.{true}
use mathlib.Core.List.{List, ◌++◌}
use native.Mathlib.Omega.{arith}
use lib.ListN.{length, take, drop}
use lib.Seq.{take_at}
use Rattle.octets.specs.Digits.{AllBelow, to_little_endian}
use Rattle.std.specs.Prelude.{Ok}
use Rattle.answers.proofs.WrittenBy.{written-only}
use Rattle.frames.specs.Frame.{body_of}
use Rattle.ledger.specs.Pairs.{size, ObeyFrom, ends_at_most}
use Rattle.ledger.specs.Ledger.{largest}
use Rattle.savedrecords.specs.Kind.{head_length}
use Rattle.savedrecords.specs.Record.{saved_pairs, record_refusal, record_of}
use Rattle.savedrecords.specs.declared.kind.Kind.{Kind}
use Rattle.savedrecords.proofs.KindNumbers.{head_length-le}
use Rattle.savedrecords.proofs.RecordPairs.{ends_at_most-more}
use Rattle.savedrecords.proofs.RecordRefusal.{refusal-sound}
use Rattle.savedrecords.proofs.RecordRoundTrip.{length-record_of, record_same, record-round-trip}
use Rattle.savedconversions.specs.Conversion.{convert_refusal, convert, convert_after}
use Rattle.savedconversions.proofs.ConversionNumber.{Sound, number-sound, number_0, part_length, part-few, converts-written}

-- what was converted: the record that was tested, and the one that was written
pub record Converted (from to : Kind) (f : ℕ) (bytes out : List ℕ) (n : ℕ) : Type 0 where
  pub sound : Sound from to f bytes out
  pub written : take n (convert_after from to f bytes out) ≡ record_of to f (saved_pairs from bytes)

pub converted : (from to : Kind) (f : ℕ) (bytes out : List ℕ) (n : ℕ) → convert from to f bytes out ≡ Ok n → Converted from to f bytes out n
unfolding convert
converted from to f bytes out n e =
    let text = record_of to f (saved_pairs from bytes) in
    let w = written-only (convert_refusal from to f bytes out) _ n e in
    let a = converts-written from to f bytes out w.0 in
    record { sound = number-sound from to f bytes out w.0; written = rw (sym a.1) (take_at text (drop (length text) out) n w.1) }

module _ (from to : Kind) (f : ℕ) (bytes : List ℕ) (below : AllBelow 256 bytes) (fits : to.number < 2 ^ 16) (whole : f < 2 ^ 64)
    (right : record_refusal from bytes ≡ 0) (ends : ends_at_most f (saved_pairs from bytes) ≡ true) where
  ruled : ObeyFrom 0 (saved_pairs from bytes)
  ruled = (refusal-sound from bytes right).ruled

  ends-largest : ends_at_most largest (saved_pairs from bytes) ≡ true
  ends-largest = ends_at_most-more f largest 0 (saved_pairs from bytes) ruled (omega arith) ends

  -- the record that is written is one, with the same pairs
  kept : let other = record_of to f (saved_pairs from bytes) in (record_refusal to other ≡ 0) × (saved_pairs to other ≡ saved_pairs from bytes)
  kept =
      record-round-trip.reads_what_was_written to f (saved_pairs from bytes) (omega arith)
      (omega (arith, part-few from bytes below right, part_length from bytes right, head_length-le to)) ruled ends-largest

  pub right_kept : record_refusal to (record_of to f (saved_pairs from bytes)) ≡ 0
  right_kept = kept.0

  pub pairs-kept : saved_pairs to (record_of to f (saved_pairs from bytes)) ≡ saved_pairs from bytes
  pairs-kept = kept.1

  -- converted back, by the same file length
  pub there_and_back : to_little_endian 256 (head_length from) f ≡ take (head_length from) (body_of bytes) → (back : List ℕ) → length bytes ≤ length back
      → let other = record_of to f (saved_pairs from bytes) in
      (convert to from f other back ≡ Ok (length bytes)) × (convert_after to from f other back ≡ bytes ++ drop (length bytes) back)
  there_and_back head back room =
      let ps = saved_pairs from bytes in
      let other = record_of to f ps in
      let same : record_of from f (saved_pairs to other) ≡ bytes = rw pairs-kept (record_same from bytes below right f head) in
      let n : 6 + (head_length from + 16 * size (saved_pairs to other)) ≡ length bytes = sym (length-record_of from f (saved_pairs to other)) ∙ ap length same in
      let a = converts-written to from f other back (number_0 to from f other back right_kept (rw pairs-kept ends) (omega (arith, n, room))) in
      (sym (rw same at a.0), sym (rw same at a.1))
