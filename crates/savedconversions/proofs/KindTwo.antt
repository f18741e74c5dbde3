-- `KindTwo` holds.
use Prim.Native.Nat.{ℕ, ◌+◌, ◌*◌, ◌/◌, ◌≤◌}
use mathlib.Core.Path.{◌≡◌, refl, sym, ap, ◌∙◌}
use mathlib.Core.Bool.{Bool, true, false}
use mathlib.Core.List.{List, [], ◌∷◌, ◌++◌}
use native.Mathlib.Omega.{arith}
use native.Mathlib.Decide.{dec_le}
use lib.ListN.{length, take, drop, replicate}
use lib.Seq.{drop-drop}
use Rattle.octets.specs.Digits.{AllBelow, from_little_endian, to_little_endian}
use Rattle.octets.proofs.Digits.{below-drop}
use Rattle.answers.specs.Written.{first_refusal, room_refusal, written_after}
use Rattle.std.specs.Prelude.{Ok, Err}
use Rattle.frames.specs.Frame.{length_field, kind_of, framed}
use Rattle.ledger.specs.Pairs.{Pairs, none, size, ObeyFrom, obey_from, ends_at_most}
use Rattle.ledger.specs.Ledger.{largest, length_wrong, capacity}
use Rattle.savedrecords.specs.Kind.{kind_one, kind_two}
use Rattle.savedrecords.specs.Record.{pairs_in, pair_bytes, pair_part, file_length_of, saved_pairs, frame_refusal, body_wrong, record_refusal, length_refusal, record_of}
use Rattle.savedrecords.specs.RecordCases.{RightFrame, IsKind, RecordJudged, by_61, by_62, by_63, is_record}
use Rattle.savedrecords.specs.declared.kind.Kind.{Kind}
use Rattle.savedrecords.specs.declared.kind.SecondNumber.TheVariants.{End, Length}
use Rattle.savedrecords.proofs.RecordPairs.{ends_at_most-more, eight-lt, ends_at, rises-at}
use Rattle.savedrecords.proofs.RecordCases.{exceeds-some, row-63, record-right, record-cases}
use Rattle.savedrecords.proofs.RecordBytes.{record-bytes}
use Rattle.savedrecords.proofs.RecordRoundTrip.{length-record_of, head-same, record-round-trip}
use Rattle.savedledgers.specs.Saved.{read_refusal, read_after, read_saved, read_saved_after, read_sized_after}
use Rattle.savedledgers.specs.SavedReading.{RightLength, by_record, by_65 as Reading·by_65}
use Rattle.savedledgers.proofs.SavedReading.{number-53, number-record, number-64, number-plain, number-sized, after-refused, right-length, saved-reading, saved-refused, saved-answers}
use Rattle.savedconversions.specs.Conversion.{convert_refusal, convert_after, to_two, to_two_after, to_one, to_one_after}
use Rattle.savedconversions.specs.KindTwo.{kind_in, length_in, start_at, second_at, KindTwo}
use Rattle.savedconversions.proofs.ConversionNumber.{number_0, part_length, converts-written}
use Rattle.savedconversions.specs.ConversionCases.{by_record as Conversion·by_record, by_65}
use Rattle.savedconversions.proofs.ConversionCases.{conversion-cases}
use Rattle.savedconversions.proofs.ConversionRoundTrip.{Converted, converted, there_and_back, right_kept, pairs-kept}

-- ---- ends of 2^64 or more

-- the pairs of kind 2 come after 14 bytes
part-14 : (bytes : List ℕ) → drop 8 (drop 6 bytes) ≡ drop 14 bytes
part-14 bytes = drop-drop 8 6 bytes

module _ (bytes : List ℕ) (below : AllBelow 256 bytes) where
  part-below : AllBelow 256 (drop 8 (drop 6 bytes))
  part-below = below-drop 256 8 (drop 6 bytes) (below-drop 256 6 bytes below)

  end_then_pair : (k : ℕ) → RightFrame bytes → IsKind kind_two bytes → 16 * (k + 2) ≤ length (drop 14 bytes)
      → 18446744073709551616 ≤ start_at 8 k bytes + second_at 8 k bytes → record_refusal kind_two bytes ≡ 63
  end_then_pair k f i h e =
      let part = drop 8 (drop 6 bytes) in
      let n : length part ≡ length (drop 14 bytes) = ap length (part-14 bytes) in
      let next = eight-lt (drop (16 * (k + 1)) part) (below-drop 256 (16 * (k + 1)) part part-below) in
      let second = drop-drop 8 (16 * k) part in
      row-63 kind_two bytes f i
      (λ b. omega (arith, next, rw second at (rises-at Length (length part / 16) k 0 part (omega arith) b.ruled)))

  end_last : (k : ℕ) → 16 * (k + 1) ≡ length (drop 14 bytes) → 18446744073709551616 ≤ start_at 8 k bytes + second_at 8 k bytes
      → ends_at_most (file_length_of bytes) (saved_pairs kind_two bytes) ≡ false
  unfolding file_length_of
  end_last k h e = go (ends_at_most (file_length_of bytes) (saved_pairs kind_two bytes)) refl
    where
      go : (t : Bool) → ends_at_most (file_length_of bytes) (saved_pairs kind_two bytes) ≡ t → t ≡ false
      go false x = refl
      go true x =
          let part = drop 8 (drop 6 bytes) in
          let n : length part ≡ length (drop 14 bytes) = ap length (part-14 bytes) in
          let f = eight-lt (drop 6 bytes) (below-drop 256 6 bytes below) in
          absurd (omega (arith, f, rw (drop-drop 8 (16 * k) part) at (ends_at Length (length part / 16) k (file_length_of bytes) part (omega arith) x)))

-- ---- the kind

-- of the four cases only one has the number 62
other_kind : (kind : Kind) (bytes : List ℕ) → record_refusal kind bytes ≡ 62 → RightFrame bytes × (kind_in bytes ≡ kind.number → ⊥)
other_kind kind bytes e = go (record_refusal kind bytes) (record-cases kind bytes).judged_is e
  where
    go : (k : ℕ) → RecordJudged kind bytes k → k ≡ 62 → RightFrame bytes × (kind_in bytes ≡ kind.number → ⊥)
    go k (by_61 n) d = absurd (omega (arith, d))
    go k (by_62 f n) d = (f, n)
    go k (by_63 f i n) d = absurd (omega (arith, d))
    go k (is_record x) d = absurd (omega (arith, d))

-- ---- the old reader

old_refuses : (bytes ledger : List ℕ) → RightLength ledger → RightFrame bytes → kind_in bytes ≡ 2 → (read_saved bytes ledger ≡ Err 62) × (read_saved_after bytes ledger ≡ ledger)
old_refuses bytes ledger l f i =
    let r : read_refusal kind_one bytes ledger ≡ 62 =
    sym ((saved-reading kind_one bytes ledger).judged_only 62 (by_record 62 l (by_62 f (λ e. omega (arith, i, e))) (omega arith))) in
    (saved-refused bytes ledger (omega arith) ∙ ap Err r, after-refused kind_one bytes ledger (omega arith))

-- ---- converted

-- the record of kind 2 that a conversion which wrote n bytes has written
abbrev two_of : ℕ → List ℕ → List ℕ → ℕ → List ℕ
two_of f bytes out n = take n (to_two_after f bytes out)

module _ (f : ℕ) (bytes out : List ℕ) (n : ℕ) (whole : f ≤ 18446744073709551615) (below : AllBelow 256 bytes) (e : to_two f bytes out ≡ Ok n) where
  one_two_one : (back : List ℕ) → length bytes ≤ length back → let two = take n (to_two_after f bytes out) in
      (to_one two back ≡ Ok (length bytes)) × (to_one_after two back ≡ bytes ++ drop (length bytes) back)
  unfolding to_little_endian
  one_two_one back room =
      let c = converted kind_one kind_two f bytes out n e in
      rw (c.written, record-round-trip.reads_the_length kind_two f (saved_pairs kind_one bytes) refl whole)
      (there_and_back kind_one kind_two f bytes below (omega arith) (omega arith) c.sound.right c.sound.ends refl back room)

  two_is : two_of f bytes out n ≡ record_of kind_two f (saved_pairs kind_one bytes)
  two_is = (converted kind_one kind_two f bytes out n e).written

  two-right : record_refusal kind_two (two_of f bytes out n) ≡ 0
  two-right =
      let c = converted kind_one kind_two f bytes out n e in
      rw two_is (right_kept kind_one kind_two f bytes below (omega arith) (omega arith) c.sound.right c.sound.ends)

  two-pairs : saved_pairs kind_two (two_of f bytes out n) ≡ saved_pairs kind_one bytes
  two-pairs =
      let c = converted kind_one kind_two f bytes out n e in
      rw two_is (pairs-kept kind_one kind_two f bytes below (omega arith) (omega arith) c.sound.right c.sound.ends)

  two-length : file_length_of (two_of f bytes out n) ≡ f
  two-length = rw two_is (record-round-trip.reads_the_length kind_two f (saved_pairs kind_one bytes) refl whole)

  same_number : (ledger : List ℕ) → read_refusal kind_two (two_of f bytes out n) ledger ≡ read_refusal kind_one bytes ledger
  same_number ledger = go (length_wrong ledger) refl
    where
      c : Converted kind_one kind_two f bytes out n
      c = converted kind_one kind_two f bytes out n e

      pairs : (length (pair_part kind_two (two_of f bytes out n)) / 16 ≡ size (saved_pairs kind_one bytes)) × (length (pair_part kind_one bytes) / 16 ≡ size (saved_pairs kind_one bytes))
      pairs =
          (omega (arith, part_length kind_two (two_of f bytes out n) two-right, ap size two-pairs), omega (arith, part_length kind_one bytes c.sound.right))

      room : length_wrong ledger ≡ false → Dec (size (saved_pairs kind_one bytes) ≤ capacity ledger) → read_refusal kind_two (two_of f bytes out n) ledger ≡ read_refusal kind_one bytes ledger
      room l (yes h) =
          number-sized kind_two (two_of f bytes out n) ledger l two-right (omega (arith, pairs.0)) refl (rw (two-length, two-pairs) c.sound.ends)
          ∙ sym (number-plain kind_one bytes ledger l c.sound.right (omega (arith, pairs.1)) refl)
      room l (no h) = number-64 kind_two (two_of f bytes out n) ledger l two-right (omega (arith, pairs.0)) ∙ sym (number-64 kind_one bytes ledger l c.sound.right (omega (arith, pairs.1)))

      go : (t : Bool) → length_wrong ledger ≡ t → read_refusal kind_two (two_of f bytes out n) ledger ≡ read_refusal kind_one bytes ledger
      go true l = number-53 kind_two (two_of f bytes out n) ledger l ∙ sym (number-53 kind_one bytes ledger l)
      go false l = room l (dec_le (size (saved_pairs kind_one bytes)) (capacity ledger))

  same_after : (ledger : List ℕ) → read_sized_after (two_of f bytes out n) ledger ≡ read_saved_after bytes ledger
  unfolding read_after
  same_after ledger = rw (same_number ledger, two-pairs)

two_one_two : (bytes out : List ℕ) (n : ℕ) → AllBelow 256 bytes → to_one bytes out ≡ Ok n → (back : List ℕ) → length bytes ≤ length back
    → let one = take n (to_one_after bytes out) in
    (to_two (length_in bytes) one back ≡ Ok (length bytes)) × (to_two_after (length_in bytes) one back ≡ bytes ++ drop (length bytes) back)
unfolding file_length_of
two_one_two bytes out n below e back room =
    let f = length_in bytes in
    let c = converted kind_two kind_one f bytes out n e in
    let whole = eight-lt (drop 6 bytes) (below-drop 256 6 bytes below) in
    rw c.written
    (there_and_back kind_two kind_one f bytes below (omega arith) whole c.sound.right c.sound.ends (head-same kind_two bytes below c.sound.right) back room)

any_size : (f : ℕ) (ps : Pairs) (out : List ℕ) → size ps ≤ 268435455 → ObeyFrom 0 ps → f ≤ 18446744073709551615 → ends_at_most f ps ≡ true
    → 14 + 16 * size ps ≤ length out → to_two f (record_of kind_one 0 ps) out ≡ Ok (14 + 16 * size ps)
any_size f ps out few ruled whole ends room =
    let one = record_of kind_one 0 ps in
    let most = ends_at_most-more f largest 0 ps ruled whole ends in
    let kept = record-round-trip.reads_what_was_written kind_one 0 ps (omega arith) (omega arith) ruled most in
    let same = kept.1 in
    let z = number_0 kind_one kind_two f one out kept.0 (rw same ends) (rw same (omega arith)) in
    let n : length (record_of kind_two f (saved_pairs kind_one one)) ≡ 14 + 16 * size ps = rw same (omega (arith, length-record_of kind_two f ps)) in
    sym (rw n at (converts-written kind_one kind_two f one out z).0)

-- ---- the bytes

drops_length : (f : ℕ) (ps : Pairs) → record_of kind_one f ps ≡ to_little_endian 256 4 (2 + 16 * size ps) ++ (to_little_endian 256 2 1 ++ pair_bytes End ps)
unfolding to_little_endian
drops_length f ps =
    let none : 2 + (0 + 16 * size ps) ≡ 2 + 16 * size ps = omega arith in
    rw none at (record-bytes.all_bytes kind_one f ps)

empty : record_of kind_two 0 none ≡ 0x0A ∷ 0 ∷ 0 ∷ 0 ∷ 0x02 ∷ 0 ∷ replicate 8 0
unfolding record_of framed pair_bytes to_little_endian
empty = refl

first_ninety : to_two_after 100 (0x12 ∷ 0 ∷ 0 ∷ 0 ∷ 0x01 ∷ 0 ∷ replicate 8 0 ++ (0x5A ∷ replicate 7 0)) (replicate 31 0xEE)
    ≡ 0x1A ∷ 0 ∷ 0 ∷ 0 ∷ 0x02 ∷ 0 ∷ 0x64 ∷ replicate 7 0 ++ (replicate 8 0 ++ (0x5A ∷ replicate 7 0 ++ (0xEE ∷ [])))
unfolding convert_after convert_refusal first_refusal room_refusal written_after record_refusal frame_refusal body_wrong length_refusal length_field kind_of pairs_in obey_from ends_at_most record_of framed pair_bytes to_little_endian from_little_endian
first_ninety = refl

-- ---- all of it

pub kind-two : KindTwo
unfolding file_length_of
kind-two =
    let body : (n : ℕ) → 2 + (8 + n) ≡ 10 + n = λ n. omega arith in
    record {
      holds = λ f ps. rw (body (16 * size ps)) at (record-bytes.all_bytes kind_two f ps);
      start_and_length = record-bytes.next_length;
      start_and_end = record-bytes.next_end;
      to_2 = conversion-cases kind_one kind_two;
      reads_2 = saved-reading kind_two;
      reads_2_number = λ bytes ledger. (saved-answers bytes ledger).two_number;
      ends_whole = record-bytes.length_read;
      end_then_pair = λ bytes k below. end_then_pair bytes below k;
      end_last = λ bytes ledger out k below r h e.
          let x = exceeds-some (file_length_of bytes) (saved_pairs kind_two bytes) (end_last bytes below k h e) in
          let n : length (drop 8 (drop 6 bytes)) / 16 ≡ k + 1 = omega (arith, ap length (part-14 bytes)) in (
            λ l m. sym ((saved-reading kind_two bytes ledger).judged_only 65 (Reading·by_65 l r (λ t. omega (arith, n, m, t)) (refl, x))),
            sym ((conversion-cases kind_two kind_one (file_length_of bytes) bytes out).judged_only 65 (by_65 r x)),
          );
      short = λ bytes f i h. row-63 kind_two bytes f i (λ b. omega (arith, h, b.head));
      answers_length = λ bytes ledger z. ((saved-answers bytes ledger).two_read z).0;
      other_kind = λ kind bytes. (other_kind kind bytes, λ p. sym ((record-cases kind bytes).judged_only 62 (by_62 p.0 p.1)));
      expected = (refl, refl);
      back = λ bytes. conversion-cases kind_two kind_one (file_length_of bytes) bytes;
      drops_length = drops_length;
      unchanged_reading = λ bytes ledger k h e. after-refused kind_two bytes ledger (omega (arith, h, e, (saved-answers bytes ledger).two_number));
      unchanged_to_2 = λ f bytes out k h e. ((conversion-cases kind_one kind_two f bytes out).refuses (omega (arith, h, e))).unchanged;
      unchanged_back = λ bytes out k h e. ((conversion-cases kind_two kind_one (file_length_of bytes) bytes out).refuses (omega (arith, h, e))).unchanged;
      zero_pair = λ kind bytes k f i h. (record-cases kind bytes).zero_pair k f i h;
      first_of_1 = λ f bytes ledger out h. (
        sym ((conversion-cases kind_one kind_two f bytes out).judged_only (record_refusal kind_one bytes) (Conversion·by_record (record_refusal kind_one bytes) (record-cases kind_one bytes).judged_is h)),
        λ l. number-record kind_one bytes ledger (right-length ledger l) h,
      );
      first_of_2 = λ bytes ledger out h. (
        sym ((conversion-cases kind_two kind_one (file_length_of bytes) bytes out).judged_only (record_refusal kind_two bytes) (Conversion·by_record (record_refusal kind_two bytes) (record-cases kind_two bytes).judged_is h)),
        λ l. number-record kind_two bytes ledger (right-length ledger l) h,
      );
      one_two_one = λ f bytes out back n h below e. one_two_one f bytes out n h below e back;
      two_one_two = λ bytes out back n below e. two_one_two bytes out n below e back;
      reads_as_before = λ f bytes out ledger n h below e.
          (same_number f bytes out n h below e ledger, same_after f bytes out n h below e ledger, two-length f bytes out n h below e);
      any_size = any_size;
      old_refuses = old_refuses;
      old_refuses_converted = λ f bytes out ledger n h below e l.
          let r = record-right kind_two (two_of f bytes out n) (two-right f bytes out n h below e) in
          (old_refuses (two_of f bytes out n) ledger l r.frame r.is_kind).0;
      empty = empty;
      first_ninety = first_ninety;
    }
