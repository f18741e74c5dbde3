-- `ConversionCases` holds of every conversion.
use Prim.Native.Nat.{ℕ, ◌<◌}
use mathlib.Core.Path.{◌≡◌, refl, sym, ap, ◌∙◌}
use mathlib.Core.Bool.{Bool, true, false}
use mathlib.Core.List.{List}
use native.Mathlib.Omega.{arith}
use native.Mathlib.Decide.{dec_lt, ℕ_discrete}
use lib.ListN.{length}
use Rattle.answers.specs.Refusal.{number_in}
use Rattle.answers.specs.Written.{Refuses, Writes}
use Rattle.answers.proofs.WrittenBy.{refuses, writes}
use Rattle.ledger.specs.Pairs.{ends_at_most}
use Rattle.savedrecords.specs.Record.{saved_pairs, record_refusal, record_of}
use Rattle.savedrecords.specs.RecordCases.{RightRecord, Exceeds}
use Rattle.savedrecords.specs.declared.kind.Kind.{Kind}
use Rattle.savedrecords.proofs.RecordCases.{exceeds-not, exceeds-some, exceeds-none, exceeds-false, right-record, record-right, record-cases}
use Rattle.savedrecords.proofs.RecordRoundTrip.{length-record_of}
use Rattle.savedconversions.specs.Conversion.{convert_refusal, convert, convert_after}
use Rattle.savedconversions.specs.ConversionCases.{length_as, ConversionJudged, by_record, by_65, by_55, is_converted, ConversionCases}
use Rattle.savedconversions.proofs.ConversionNumber.{number-record, number-65, number-55, number_0, converts-refused, converts-written}

module _ (from to : Kind) (f : ℕ) (bytes out : List ℕ) where
  -- the number of the answer is that of the refusal
  number_is : number_in (convert from to f bytes out) ≡ convert_refusal from to f bytes out
  number_is = go (ℕ_discrete (convert_refusal from to f bytes out) 0)
    where
      go : Dec (convert_refusal from to f bytes out ≡ 0) → number_in (convert from to f bytes out) ≡ convert_refusal from to f bytes out
      go (yes z) = sym (ap number_in (converts-written from to f bytes out z).0) ∙ sym z
      go (no n) = sym (ap number_in (converts-refused from to f bytes out (convert_refusal from to f bytes out) refl (omega arith)).0)

  exceeds-65 : record_refusal from bytes ≡ 0 → Exceeds f (saved_pairs from bytes) → convert_refusal from to f bytes out ≡ 65
  exceeds-65 r x = number-65 from to f bytes out r (exceeds-false f (saved_pairs from bytes) x)

  refusal-only : (k : ℕ) → ConversionJudged from to f bytes out k → k ≡ convert_refusal from to f bytes out
  refusal-only k (by_record k₁ j h) =
      let e = (record-cases from bytes).judged_only k j in
      e ∙ sym (number-record from to f bytes out (omega (arith, e, h)))
  refusal-only k (by_65 r x) = sym (exceeds-65 (right-record from bytes r) x)
  refusal-only k (by_55 r n h) = sym (number-55 from to f bytes out (right-record from bytes r) (exceeds-none f (saved_pairs from bytes) n) h)
  refusal-only k (is_converted r n h) = sym (number_0 from to f bytes out (right-record from bytes r) (exceeds-none f (saved_pairs from bytes) n) h)

  refusal_is : ConversionJudged from to f bytes out (convert_refusal from to f bytes out)
  refusal_is = go (ℕ_discrete (record_refusal from bytes) 0)
    where
      go₃ : RightRecord from bytes → ends_at_most f (saved_pairs from bytes) ≡ true → Dec (length out < length_as from to bytes)
          → ConversionJudged from to f bytes out (convert_refusal from to f bytes out)
      go₃ r e (yes h) = rw (number-55 from to f bytes out (right-record from bytes r) e h) (by_55 r (exceeds-not f (saved_pairs from bytes) e) h)
      go₃ r e (no h) = rw (number_0 from to f bytes out (right-record from bytes r) e (omega arith)) (is_converted r (exceeds-not f (saved_pairs from bytes) e) (omega arith))

      go₂ : RightRecord from bytes → (t : Bool) → ends_at_most f (saved_pairs from bytes) ≡ t → ConversionJudged from to f bytes out (convert_refusal from to f bytes out)
      go₂ r true e = go₃ r e (dec_lt (length out) (length_as from to bytes))
      go₂ r false e =
          let x = exceeds-some f (saved_pairs from bytes) e in
          rw (exceeds-65 (right-record from bytes r) x) (by_65 r x)

      go : Dec (record_refusal from bytes ≡ 0) → ConversionJudged from to f bytes out (convert_refusal from to f bytes out)
      go (yes z) = go₂ (record-right from bytes z) (ends_at_most f (saved_pairs from bytes)) refl
      go (no n) = rw (number-record from to f bytes out (omega arith)) (by_record (record_refusal from bytes) (record-cases from bytes).judged_is (omega arith))

  refused : 0 < number_in (convert from to f bytes out) → Refuses (convert from to f bytes out) (convert_after from to f bytes out) out (number_in (convert from to f bytes out))
  unfolding convert convert_after
  refused h = refuses (convert_refusal from to f bytes out) _ (record_of to f (saved_pairs from bytes)) out _ (sym number_is) h

  converted : number_in (convert from to f bytes out) ≡ 0 → Writes (convert from to f bytes out) (convert_after from to f bytes out) out (record_of to f (saved_pairs from bytes)) (length_as from to bytes)
  unfolding convert convert_after
  converted z =
      let n = length-record_of to f (saved_pairs from bytes) in
      rw n (writes (convert_refusal from to f bytes out) (length_as from to bytes) (record_of to f (saved_pairs from bytes)) out (sym number_is ∙ z) n)

  pub conversion-cases : ConversionCases from to f bytes out (convert from to f bytes out) (convert_after from to f bytes out)
  conversion-cases =
      record {
        judged_is = rw number_is refusal_is;
        judged_only = λ k j. refusal-only k j ∙ sym number_is;
        refuses = refused;
        converts = converted;
      }
