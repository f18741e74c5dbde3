-- What the readers of saved ledgers answer and leave, case by case: `SavedReading` and `SavedAnswers` hold.
use Prim.Native.Nat.{ℕ, ◌/◌, ◌≤◌, ◌<◌}
use mathlib.Core.Path.{◌≡◌, refl, sym, ap, ◌∙◌}
use mathlib.Core.Bool.{Bool, true, false, cond, true≢false}
use mathlib.Core.List.{List}
use native.Mathlib.Omega.{arith}
use native.Mathlib.Decide.{dec_le, dec_lt, ℕ_discrete}
use borrow.Author.Tests.{lt-ltb, le-ltb}
use lib.Dec.{leb, ltb}
use lib.ListN.{length}
use Rattle.octets.specs.Digits.{AllBelow}
use Rattle.octets.proofs.Digits.{below-drop}
use Rattle.std.specs.Prelude.{Ok, Err}
use Rattle.answers.specs.Refusal.{number_in}
use Rattle.answers.proofs.WrittenBy.{first_some, first-none}
use Rattle.ledger.specs.Pairs.{ends_at_most}
use Rattle.frames.specs.Frame.{body_of}
use Rattle.ledger.specs.Ledger.{largest, length_wrong, capacity, laid_out}
use Rattle.ledger.proofs.LedgerSizes.{length-right, length-fits}
use Rattle.savedrecords.specs.Kind.{kind_one, kind_two, head_length, end_of}
use Rattle.savedrecords.specs.Record.{pair_length, pair_part, file_length_of, saved_pairs, record_refusal, length_refusal, last_end}
use Rattle.savedrecords.specs.declared.kind.Kind.{Kind}
use Rattle.savedrecords.specs.declared.kind.SecondNumber.{SecondNumber}
use Rattle.savedrecords.specs.declared.kind.SecondNumber.TheVariants.{End, Length}
use Rattle.savedrecords.proofs.RecordPairs.{size-pairs_in, ends_at_most-last, ends_at_most-more, eight-lt, ends-fit}
use Rattle.savedrecords.proofs.RecordRefusal.{refusal-sound}
use Rattle.savedrecords.specs.RecordCases.{RightRecord}
use Rattle.savedrecords.proofs.RecordCases.{exceeds-not, exceeds-some, exceeds-none, exceeds-false, right-record, record-right, record-cases}
use Rattle.savedledgers.specs.Saved.{read_refusal, read_after, read_saved, read_sized, loaded_for_length}
use Rattle.savedledgers.specs.SavedReading.{RightLength, TooMany, Beyond, ReadingJudged, by_53, by_record, by_64, by_65, is_read, Reads, SavedReading, SavedAnswers}

module _ (kind : Kind) (bytes ledger : List ℕ) where
  pub after-refused : 0 < read_refusal kind bytes ledger → read_after kind bytes ledger ≡ ledger
  unfolding read_after
  after-refused h = rw (lt-ltb 0 (read_refusal kind bytes ledger) h)

  pub after_read : read_refusal kind bytes ledger ≡ 0 → read_after kind bytes ledger ≡ laid_out (capacity ledger) (saved_pairs kind bytes)
  unfolding read_after
  after_read e = rw e

  -- ---- the number

  pub number-53 : length_wrong ledger ≡ true → read_refusal kind bytes ledger ≡ 53
  unfolding read_refusal
  number-53 e = rw e

  module _ (lengths : length_wrong ledger ≡ false) where
    pub number-record : 0 < record_refusal kind bytes → read_refusal kind bytes ledger ≡ record_refusal kind bytes
    unfolding read_refusal
    number-record h = rw lengths (first_some (record_refusal kind bytes) _ h)

    module _ (right : record_refusal kind bytes ≡ 0) where
      only-room : read_refusal kind bytes ledger
          ≡ cond (ltb (capacity ledger) (length (pair_part kind bytes) / pair_length)) 64 (cond kind.sized (length_refusal (file_length_of bytes) (saved_pairs kind bytes)) 0)
      unfolding read_refusal
      only-room =
          rw (lengths, first-none (record_refusal kind bytes) _ right, size-pairs_in kind.second (length (pair_part kind bytes) / pair_length) (pair_part kind bytes))

      pub number-64 : capacity ledger < length (pair_part kind bytes) / pair_length → read_refusal kind bytes ledger ≡ 64
      number-64 h = only-room ∙ rw (lt-ltb (capacity ledger) (length (pair_part kind bytes) / pair_length) h)

      module _ (room : length (pair_part kind bytes) / pair_length ≤ capacity ledger) where
        only-length : read_refusal kind bytes ledger ≡ cond kind.sized (length_refusal (file_length_of bytes) (saved_pairs kind bytes)) 0
        only-length = only-room ∙ rw (le-ltb (capacity ledger) (length (pair_part kind bytes) / pair_length) room)

        pub number-plain : kind.sized ≡ false → read_refusal kind bytes ledger ≡ 0
        number-plain s = only-length ∙ rw s

        module _ (sized : kind.sized ≡ true) where
          pub number-65 : ends_at_most (file_length_of bytes) (saved_pairs kind bytes) ≡ false → read_refusal kind bytes ledger ≡ 65
          unfolding length_refusal
          number-65 e = only-length ∙ rw (e, sized)

          pub number-sized : ends_at_most (file_length_of bytes) (saved_pairs kind bytes) ≡ true → read_refusal kind bytes ledger ≡ 0
          unfolding length_refusal
          number-sized e = only-length ∙ rw (e, sized)

        pub number_0 : (kind.sized ≡ true → ends_at_most (file_length_of bytes) (saved_pairs kind bytes) ≡ true) → read_refusal kind bytes ledger ≡ 0
        number_0 ends = go kind.sized refl
          where
            go : (t : Bool) → kind.sized ≡ t → read_refusal kind bytes ledger ≡ 0
            go true s = number-sized s (ends s)
            go false s = number-plain s

-- what a reader that refuses nothing has tested
pub record Sound (kind : Kind) (bytes ledger : List ℕ) : Type 0 where
  pub lengths : length_wrong ledger ≡ false
  pub right : record_refusal kind bytes ≡ 0
  pub room : length (pair_part kind bytes) / pair_length ≤ capacity ledger
  pub ends : kind.sized ≡ true → ends_at_most (file_length_of bytes) (saved_pairs kind bytes) ≡ true

pub number-sound : (kind : Kind) (bytes ledger : List ℕ) → read_refusal kind bytes ledger ≡ 0 → Sound kind bytes ledger
number-sound kind bytes ledger z = go (length_wrong ledger) refl
  where
    ends : (e : length_wrong ledger ≡ false) (r : record_refusal kind bytes ≡ 0) → length (pair_part kind bytes) / pair_length ≤ capacity ledger
        → kind.sized ≡ true → (t : Bool) → ends_at_most (file_length_of bytes) (saved_pairs kind bytes) ≡ t → t ≡ true
    ends e r h s true o = refl
    ends e r h s false o = absurd (omega (arith, number-65 kind bytes ledger e r h s o))

    go₃ : length_wrong ledger ≡ false → record_refusal kind bytes ≡ 0 → Dec (length (pair_part kind bytes) / pair_length ≤ capacity ledger) → Sound kind bytes ledger
    go₃ e r (yes h) = record { lengths = e; right = r; room = h; ends = λ s. ends e r h s (ends_at_most (file_length_of bytes) (saved_pairs kind bytes)) refl }
    go₃ e r (no h) = absurd (omega (arith, number-64 kind bytes ledger e r (omega arith)))

    go₂ : length_wrong ledger ≡ false → Dec (record_refusal kind bytes ≡ 0) → Sound kind bytes ledger
    go₂ e (yes r) = go₃ e r (dec_le (length (pair_part kind bytes) / pair_length) (capacity ledger))
    go₂ e (no r) = absurd (omega (arith, number-record kind bytes ledger e (omega arith)))

    go : (t : Bool) → length_wrong ledger ≡ t → Sound kind bytes ledger
    go true e = absurd (omega (arith, number-53 kind bytes ledger e))
    go false e = go₂ e (ℕ_discrete (record_refusal kind bytes) 0)

pub end-not-length : End ≡ Length → ⊥
end-not-length e = omega (arith, ap (λ s. end_of s 1 0) e)

-- then the ends fit the ledger's entries
pub ends-fit-entries : (kind : Kind) (bytes ledger : List ℕ) → AllBelow 256 bytes → (kind.second ≡ Length → kind.sized ≡ true) → Sound kind bytes ledger
    → ends_at_most largest (saved_pairs kind bytes) ≡ true
unfolding file_length_of
ends-fit-entries kind bytes ledger below sized s = go kind.second refl
  where
    body : AllBelow 256 (body_of bytes)
    body = below-drop 256 6 bytes below

    go : (t : SecondNumber) → kind.second ≡ t → ends_at_most largest (saved_pairs kind bytes) ≡ true
    go End e = rw e (ends-fit (length (pair_part kind bytes) / pair_length) (pair_part kind bytes) (below-drop 256 (head_length kind) (body_of bytes) body))
    go Length e =
        ends_at_most-more (file_length_of bytes) largest 0 (saved_pairs kind bytes) (refusal-sound kind bytes s.right).ruled (omega (arith, eight-lt (body_of bytes) body))
        (s.ends (sized e))

-- ---- the cases

pub right-length : (ledger : List ℕ) → RightLength ledger → length_wrong ledger ≡ false
right-length ledger l = length-right ledger l.even l.most

wrong_length : (ledger : List ℕ) → (RightLength ledger → ⊥) → length_wrong ledger ≡ true
wrong_length ledger n = go (length_wrong ledger) refl
  where
    go : (t : Bool) → length_wrong ledger ≡ t → t ≡ true
    go true e = refl
    go false e = let f = length-fits ledger e in absurd (n (record { even = f.0; most = f.1 }))

module _ (kind : Kind) (bytes ledger : List ℕ) where
  pub reads : read_refusal kind bytes ledger ≡ 0 → Reads kind bytes ledger (saved_pairs kind bytes)
  reads e = record { number = e; after = after_read kind bytes ledger e }

  not_beyond : (Beyond kind bytes → ⊥) → kind.sized ≡ true → ends_at_most (file_length_of bytes) (saved_pairs kind bytes) ≡ true
  not_beyond n s = exceeds-none (file_length_of bytes) (saved_pairs kind bytes) (λ x. n (s, x))

  beyond-65 : length_wrong ledger ≡ false → record_refusal kind bytes ≡ 0 → (TooMany kind bytes ledger → ⊥) → Beyond kind bytes → read_refusal kind bytes ledger ≡ 65
  beyond-65 l r m b = number-65 kind bytes ledger l r (omega arith) b.0 (exceeds-false (file_length_of bytes) (saved_pairs kind bytes) b.1)

  judged_only : (k : ℕ) → ReadingJudged kind bytes ledger k → k ≡ read_refusal kind bytes ledger
  judged_only k (by_53 n) = sym (number-53 kind bytes ledger (wrong_length ledger n))
  judged_only k (by_record k₁ l j h) =
      let e = (record-cases kind bytes).judged_only k j in
      e ∙ sym (number-record kind bytes ledger (right-length ledger l) (omega (arith, e, h)))
  judged_only k (by_64 l r m) = sym (number-64 kind bytes ledger (right-length ledger l) (right-record kind bytes r) m)
  judged_only k (by_65 l r m b) = sym (beyond-65 (right-length ledger l) (right-record kind bytes r) m b)
  judged_only k (is_read l r m b) = sym (number_0 kind bytes ledger (right-length ledger l) (right-record kind bytes r) (omega arith) (not_beyond b))

  judged_is : ReadingJudged kind bytes ledger (read_refusal kind bytes ledger)
  judged_is = go (length_wrong ledger) refl
    where
      go₄ : RightLength ledger → RightRecord kind bytes → (TooMany kind bytes ledger → ⊥) → (t : Bool) → kind.sized ≡ t
          → (u : Bool) → ends_at_most (file_length_of bytes) (saved_pairs kind bytes) ≡ u → ReadingJudged kind bytes ledger (read_refusal kind bytes ledger)
      go₄ l r m true s false e =
          let b : Beyond kind bytes = (s, exceeds-some (file_length_of bytes) (saved_pairs kind bytes) e) in
          rw (beyond-65 (right-length ledger l) (right-record kind bytes r) m b) (by_65 l r m b)
      go₄ l r m true s true e =
          let b : Beyond kind bytes → ⊥ = λ x. exceeds-not (file_length_of bytes) (saved_pairs kind bytes) e x.1 in
          rw (number_0 kind bytes ledger (right-length ledger l) (right-record kind bytes r) (omega arith) (not_beyond b)) (is_read l r m b)
      go₄ l r m false s u e =
          let b : Beyond kind bytes → ⊥ = λ x. true≢false (sym x.0 ∙ s) in
          rw (number_0 kind bytes ledger (right-length ledger l) (right-record kind bytes r) (omega arith) (not_beyond b)) (is_read l r m b)

      go₃ : RightLength ledger → RightRecord kind bytes → Dec (TooMany kind bytes ledger) → ReadingJudged kind bytes ledger (read_refusal kind bytes ledger)
      go₃ l r (yes m) = rw (number-64 kind bytes ledger (right-length ledger l) (right-record kind bytes r) m) (by_64 l r m)
      go₃ l r (no m) = go₄ l r m kind.sized refl (ends_at_most (file_length_of bytes) (saved_pairs kind bytes)) refl

      go₂ : RightLength ledger → Dec (record_refusal kind bytes ≡ 0) → ReadingJudged kind bytes ledger (read_refusal kind bytes ledger)
      go₂ l (yes z) = go₃ l (record-right kind bytes z) (dec_lt (length ledger / 2) (length (pair_part kind bytes) / 16))
      go₂ l (no n) =
          rw (number-record kind bytes ledger (right-length ledger l) (omega arith))
          (by_record (record_refusal kind bytes) l (record-cases kind bytes).judged_is (omega arith))

      go : (t : Bool) → length_wrong ledger ≡ t → ReadingJudged kind bytes ledger (read_refusal kind bytes ledger)
      go true e = rw (number-53 kind bytes ledger e) (by_53 (λ l. true≢false (sym e ∙ right-length ledger l)))
      go false e =
          let f = length-fits ledger e in
          go₂ (record { even = f.0; most = f.1 }) (ℕ_discrete (record_refusal kind bytes) 0)

  pub saved-reading : SavedReading kind bytes ledger
  saved-reading = record { judged_is = judged_is; judged_only = judged_only; unchanged = after-refused kind bytes ledger; reads = reads }

-- the last end tells of all
pub last_tells : (kind : Kind) (bytes : List ℕ) (f : ℕ) → record_refusal kind bytes ≡ 0 → ends_at_most f (saved_pairs kind bytes) ≡ leb (last_end (saved_pairs kind bytes)) f
last_tells kind bytes f right = ends_at_most-last f 0 (saved_pairs kind bytes) (refusal-sound kind bytes right).ruled

-- ---- the answers

-- what an answer that is chosen by the number k is
module _ (bytes ledger : List ℕ) where
  pub saved-refused : 0 < read_refusal kind_one bytes ledger → read_saved bytes ledger ≡ Err (read_refusal kind_one bytes ledger)
  unfolding read_saved
  saved-refused h = rw (lt-ltb 0 (read_refusal kind_one bytes ledger) h)

  pub saved-done : read_refusal kind_one bytes ledger ≡ 0 → read_saved bytes ledger ≡ Ok tt
  unfolding read_saved
  saved-done e = rw e

  pub sized-refused : 0 < read_refusal kind_two bytes ledger → read_sized bytes ledger ≡ Err (read_refusal kind_two bytes ledger)
  unfolding read_sized
  sized-refused h = rw (lt-ltb 0 (read_refusal kind_two bytes ledger) h)

  pub sized-done : read_refusal kind_two bytes ledger ≡ 0 → read_sized bytes ledger ≡ Ok (file_length_of bytes)
  unfolding read_sized
  sized-done e = rw e

  one_number : number_in (read_saved bytes ledger) ≡ read_refusal kind_one bytes ledger
  one_number = go (ℕ_discrete (read_refusal kind_one bytes ledger) 0)
    where
      go : Dec (read_refusal kind_one bytes ledger ≡ 0) → number_in (read_saved bytes ledger) ≡ read_refusal kind_one bytes ledger
      go (yes z) = rw (saved-done z) (sym z)
      go (no n) = rw (saved-refused (omega arith))

  two_number : number_in (read_sized bytes ledger) ≡ read_refusal kind_two bytes ledger
  two_number = go (ℕ_discrete (read_refusal kind_two bytes ledger) 0)
    where
      go : Dec (read_refusal kind_two bytes ledger ≡ 0) → number_in (read_sized bytes ledger) ≡ read_refusal kind_two bytes ledger
      go (yes z) = rw (sized-done z) (sym z)
      go (no n) = rw (sized-refused (omega arith))

  pub saved-answers : SavedAnswers bytes ledger
  unfolding loaded_for_length
  saved-answers =
      record {
        one_number = one_number;
        one_read = saved-done;
        two_number = two_number;
        two_read = λ e. (sized-done e, ap loaded_for_length (sized-done e));
        two_refused = λ h. ap loaded_for_length (sized-refused h);
      }
