-- `SavedRoundTrip` holds.
use Prim.Native.Nat.{ℕ, ◌/◌, ◌≤◌}
use mathlib.Core.Path.{◌≡◌, refl, sym, ap, ◌∙◌}
use mathlib.Core.Bool.{true, false}
use mathlib.Core.List.{List}
use native.Mathlib.Omega.{arith}
use lib.ListN.{length, take, drop}
use lib.Seq.{take_at}
use Rattle.octets.specs.Digits.{AllBelow, to_little_endian}
use Rattle.std.specs.Prelude.{Ok}
use Rattle.frames.specs.Frame.{framed}
use Rattle.ledger.specs.Pairs.{Pairs, size, ObeyFrom, ends_at_most}
use Rattle.ledger.specs.Ledger.{largest, length_wrong, capacity, obeys, pairs_of, laid_out}
use Rattle.ledger.proofs.LedgerLayout.{length-laid_out, pairs_of-laid_out, rule-laid_out, rule-ruled, laid_out-pairs_of, size-pairs_of}
use Rattle.ledger.proofs.LedgerSizes.{length-right, length-fits}
use Rattle.ledger.proofs.LedgerRefusal.{refusal-none}
use Rattle.savedrecords.specs.Kind.{kind_one}
use Rattle.savedrecords.specs.Record.{pair_part, pair_bytes, saved_pairs, record_of}
use Rattle.savedrecords.proofs.RecordPairs.{size-pairs_in}
use Rattle.savedrecords.proofs.RecordRefusal.{refusal-sound}
use Rattle.savedrecords.proofs.RecordRoundTrip.{size-record_of, record_same, record-round-trip}
use Rattle.savedledgers.specs.Saved.{read_refusal, read_saved, read_saved_after, saved_of, write_saved, write_saved_after}
use Rattle.savedledgers.specs.SavedReading.{Reads}
use Rattle.savedledgers.specs.SavedRoundTrip.{WritesBack, SavedRoundTrip}
use Rattle.savedledgers.proofs.SavedReading.{Sound, number-sound, number-plain, after_read, reads, saved-done}
use Rattle.savedledgers.proofs.SavedWriting.{number_0, length-saved_of, writes-saved, accepted}

-- ---- saved and read

pairs-back : (ps : Pairs) → ObeyFrom 0 ps → ends_at_most largest ps ≡ true → (m : List ℕ) → length_wrong m ≡ false → size ps ≤ 4096 → size ps ≤ capacity m
    → Reads kind_one (saved_of ps) m ps
unfolding saved_of
pairs-back ps ruled ends m lengths few room =
    let h = saved_of ps in
    let kept = record-round-trip.reads_what_was_written kind_one 0 ps (omega arith) (omega arith) ruled ends in
    let n = size-record_of kind_one 0 ps in
    rw kept.1 at (reads kind_one h m (number-plain kind_one h m lengths kept.0 (omega (arith, n)) refl))

module _ (l out m : List ℕ) (n : ℕ) (e : write_saved l out ≡ Ok n) (ends : ends_at_most largest (pairs_of l) ≡ true) where
  reads-saved : length_wrong m ≡ false → size (pairs_of l) ≤ capacity m → Reads kind_one (take n (write_saved_after l out)) m (pairs_of l)
  unfolding obeys
  reads-saved lengths room =
      let w = accepted l out n e in
      let saved = saved_of (pairs_of l) in
      let few : size (pairs_of l) ≤ 4096 = omega (arith, size-pairs_of l, length-fits l w.lengths) in
      rw (w.after, take_at saved (drop (length saved) out) n w.bytes) (pairs-back (pairs_of l) (rule-ruled 0 l w.ruled) ends m lengths few room)

  reads_same : length m ≡ length l → (read_saved (take n (write_saved_after l out)) m ≡ Ok tt) × (read_saved_after (take n (write_saved_after l out)) m ≡ l)
  unfolding obeys
  reads_same same =
      let w = accepted l out n e in
      let f = length-fits l w.lengths in
      let lengths : length_wrong m ≡ false = length-right m (omega (arith, f.0)) (omega (arith, f.1)) in
      let r = reads-saved lengths (omega (arith, size-pairs_of l)) in
      (saved-done _ m r.number, r.after ∙ sym (laid_out-pairs_of (capacity m) 0 l w.ruled (omega (arith, f.0))))

-- ---- read and saved

module _ (h m : List ℕ) (bytes : AllBelow 256 h) (sound : Sound kind_one h m) where
  read-ruled : ObeyFrom 0 (saved_pairs kind_one h)
  read-ruled = (refusal-sound kind_one h sound.right).ruled

  pairs-same : pairs_of (laid_out (capacity m) (saved_pairs kind_one h)) ≡ saved_pairs kind_one h
  pairs-same =
      let part = pair_part kind_one h in
      pairs_of-laid_out (capacity m) 0 (saved_pairs kind_one h) read-ruled (omega (arith, sound.room, size-pairs_in kind_one.second (length part / 16) part))

  bytes_same : saved_of (saved_pairs kind_one h) ≡ h
  unfolding saved_of to_little_endian
  bytes_same = record_same kind_one h bytes sound.right 0 refl

  rewrites : WritesBack h (laid_out (capacity m) (saved_pairs kind_one h))
  unfolding obeys
  rewrites =
      let l = laid_out (capacity m) (saved_pairs kind_one h) in
      let ruled : obeys l ≡ true = rule-laid_out (capacity m) 0 (saved_pairs kind_one h) read-ruled in
      let same : saved_of (pairs_of l) ≡ h = rw pairs-same bytes_same in
      let n = length-laid_out (capacity m) (saved_pairs kind_one h) in
      let lengths : length_wrong l ≡ false = length-right l (omega (arith, n)) (omega (arith, n, length-fits m sound.lengths)) in
      let size_is = sym (length-saved_of (pairs_of l)) ∙ ap length same in
      record {
        ruled = ruled;
        same = same;
        writes = λ out g. rw same at (writes-saved l out (number_0 l out (refusal-none l lengths ruled) (omega (arith, size_is, g))));
      }

writes-read : (h m : List ℕ) → AllBelow 256 h → read_refusal kind_one h m ≡ 0 → WritesBack h (read_saved_after h m)
writes-read h m b z = rw (after_read kind_one h m z) (rewrites h m b (number-sound kind_one h m z))

pub saved-round-trip : SavedRoundTrip
unfolding saved_of record_of framed pair_bytes to_little_endian
saved-round-trip =
    record {
      reads_what_was_saved = reads-saved;
      reads_the_same = reads_same;
      writes_what_was_read = writes-read;
      empty = refl;
      first_ninety = refl;
    }
