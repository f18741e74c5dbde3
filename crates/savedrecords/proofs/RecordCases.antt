-- `RecordCases` holds, and what it says of a record and of ends above the file length.
use Prim.Native.Nat.{ℕ, ◌+◌, ◌*◌, ◌/◌, ◌%◌, ◌≤◌, ◌<◌}
use mathlib.Core.Path.{◌≡◌, refl, sym, ◌∙◌}
use mathlib.Core.Logic.{◌⊎◌, inl, inr, ⊎_elim}
use mathlib.Core.Bool.{Bool, true, false, true≢false, and-eq-true_iff}
use mathlib.Core.List.{List}
use native.Mathlib.Omega.{arith}
use native.Mathlib.Decide.{dec_le, ℕ_discrete}
use borrow.Author.Tests.{le-leb, leb-true}
use lib.Dec.{leb}
use lib.ListN.{length, take, drop}
use lib.Seq.{drop-drop}
use Rattle.octets.specs.Digits.{from_little_endian}
use Rattle.frames.specs.Frame.{length_field, kind_of, body_of}
use Rattle.ledger.specs.Pairs.{Pairs, none, pair, obey_from, ends_at_most}
use Rattle.ledger.proofs.PairsObey.{ruled-obey_from, obey_from-ruled}
use Rattle.savedrecords.specs.Kind.{head_length, end_of}
use Rattle.savedrecords.specs.Record.{start_in, end_in, pair_part, saved_pairs, frame_refusal, record_refusal}
use Rattle.savedrecords.specs.RecordCases.{RightFrame, IsKind, RightBody, RightRecord, RecordJudged, by_61, by_62, by_63, is_record, Exceeds, RecordCases}
use Rattle.savedrecords.specs.declared.kind.Kind.{Kind}
use Rattle.savedrecords.specs.declared.kind.SecondNumber.{SecondNumber}
use Rattle.savedrecords.specs.declared.kind.SecondNumber.TheVariants.{End, Length}
use Rattle.savedrecords.proofs.RecordPairs.{filled_at}
use Rattle.savedrecords.proofs.RecordFrame.{frame-short, frame-length-wrong, frame-kind-wrong, frame_right, frame_sound}
use Rattle.savedrecords.proofs.RecordRefusal.{refusal-frame, refusal-head, refusal-parts, refusal-order, refusal-none, refusal-sound}

-- ---- the frame

module _ (number : ℕ) (bytes : List ℕ) where
  frame-61 : (RightFrame bytes → ⊥) → frame_refusal number bytes ≡ 61
  unfolding length_field
  frame-61 n = go (dec_le 6 (length bytes))
    where
      go : Dec (6 ≤ length bytes) → frame_refusal number bytes ≡ 61
      go (yes h) = frame-length-wrong number bytes h (λ e. n (record { least = h; counted = omega (arith, e) }))
      go (no h) = frame-short number bytes (omega arith)

  module _ (f : RightFrame bytes) where
    frame-62 : (kind_of bytes ≡ number → ⊥) → frame_refusal number bytes ≡ 62
    unfolding length_field
    frame-62 n = frame-kind-wrong number bytes f.least (omega (arith, f.counted)) n

    frame-0 : kind_of bytes ≡ number → frame_refusal number bytes ≡ 0
    unfolding length_field
    frame-0 k = frame_right number bytes f.least (omega (arith, f.counted)) k

-- ---- a zero pair

zero-end : (second : SecondNumber) → end_of second 0 0 ≡ 0
zero-end End = refl
zero-end Length = refl

-- ---- an end above the file length

pub exceeds-not : (f : ℕ) (ps : Pairs) → ends_at_most f ps ≡ true → Exceeds f ps → ⊥
unfolding ends_at_most
exceeds-not f none e x = x
exceeds-not f (pair a b ps) e x =
    let q = (and-eq-true_iff (leb b f) (ends_at_most f ps)).0 e in
    let l = leb-true b f q.0 in
    ⊎_elim (λ h. omega (arith, h, l)) (λ y. exceeds-not f ps q.1 y) x

pub exceeds-some : (f : ℕ) (ps : Pairs) → ends_at_most f ps ≡ false → Exceeds f ps
unfolding ends_at_most
exceeds-some f none e = absurd (true≢false e)
exceeds-some f (pair a b ps) e = go (dec_le b f) (λ d. exceeds-some f ps d)
  where
    go : Dec (b ≤ f) → (ends_at_most f ps ≡ false → Exceeds f ps) → (f < b) ⊎ Exceeds f ps
    go (yes h) i = inr (i (rw (le-leb b f h) at e))
    go (no h) i = inl (omega arith)

pub exceeds-none : (f : ℕ) (ps : Pairs) → (Exceeds f ps → ⊥) → ends_at_most f ps ≡ true
exceeds-none f ps n = go (ends_at_most f ps) refl
  where
    go : (t : Bool) → ends_at_most f ps ≡ t → t ≡ true
    go true e = refl
    go false e = absurd (n (exceeds-some f ps e))

pub exceeds-false : (f : ℕ) (ps : Pairs) → Exceeds f ps → ends_at_most f ps ≡ false
exceeds-false f ps x = go (ends_at_most f ps) refl
  where
    go : (t : Bool) → ends_at_most f ps ≡ t → t ≡ false
    go true e = absurd (exceeds-not f ps e x)
    go false e = refl

-- ---- the cases

module _ (kind : Kind) (bytes : List ℕ) where
  row-61 : (RightFrame bytes → ⊥) → record_refusal kind bytes ≡ 61
  row-61 n = let e = frame-61 kind.number bytes n in refusal-frame kind bytes (omega (arith, e)) ∙ e

  row-62 : RightFrame bytes → (IsKind kind bytes → ⊥) → record_refusal kind bytes ≡ 62
  unfolding kind_of
  row-62 f n = let e = frame-62 kind.number bytes f n in refusal-frame kind bytes (omega (arith, e)) ∙ e

  module _ (f : RightFrame bytes) (k : IsKind kind bytes) where
    frame : frame_refusal kind.number bytes ≡ 0
    unfolding kind_of
    frame = frame-0 kind.number bytes f k

    pub row-63 : (RightBody kind bytes → ⊥) → record_refusal kind bytes ≡ 63
    row-63 n = go (dec_le (head_length kind) (length (body_of bytes)))
      where
        go₃ : head_length kind ≤ length (body_of bytes) → length (pair_part kind bytes) % 16 ≡ 0 → (t : Bool) → obey_from 0 (saved_pairs kind bytes) ≡ t → record_refusal kind bytes ≡ 63
        go₃ h w true e = absurd (n (record { head = h; whole = w; ruled = obey_from-ruled 0 (saved_pairs kind bytes) e }))
        go₃ h w false e = refusal-order kind bytes frame h w e

        go₂ : head_length kind ≤ length (body_of bytes) → Dec (length (pair_part kind bytes) % 16 ≡ 0) → record_refusal kind bytes ≡ 63
        go₂ h (yes w) = go₃ h w (obey_from 0 (saved_pairs kind bytes)) refl
        go₂ h (no w) = refusal-parts kind bytes frame h w

        go : Dec (head_length kind ≤ length (body_of bytes)) → record_refusal kind bytes ≡ 63
        go (yes h) = go₂ h (ℕ_discrete (length (pair_part kind bytes) % 16) 0)
        go (no h) = refusal-head kind bytes frame (omega arith)

    row_zero : (k : ℕ) → let part = pair_part kind bytes in
        16 * (k + 1) ≤ length part → start_in (drop (16 * k) part) ≡ 0 → from_little_endian 256 (take 8 (drop (16 * k + 8) part)) ≡ 0
        → record_refusal kind bytes ≡ 63
    row_zero k h a s =
        let part = pair_part kind bytes in
        let z : end_in kind.second (drop (16 * k) part) ≡ 0 = rw (drop-drop 8 (16 * k) part, a, s) (zero-end kind.second) in
        row-63 (λ b. omega (arith, z, filled_at kind.second (length part / 16) k 0 part (omega arith) b.ruled))

  pub right-record : RightRecord kind bytes → record_refusal kind bytes ≡ 0
  right-record r =
      let b = r.body in
      refusal-none kind bytes (frame r.frame r.is_kind) b.head b.whole (ruled-obey_from 0 (saved_pairs kind bytes) b.ruled)

  -- what is not refused is a record of the kind
  pub record-right : record_refusal kind bytes ≡ 0 → RightRecord kind bytes
  unfolding length_field kind_of
  record-right z =
      let s = refusal-sound kind bytes z in
      let f = frame_sound kind.number bytes s.frame in
      record {
        frame = record { least = f.0; counted = omega (arith, f) };
        is_kind = f.2;
        body = record { head = s.head; whole = s.parts; ruled = s.ruled };
      }

  judged_is : RecordJudged kind bytes (record_refusal kind bytes)
  unfolding length_field kind_of
  judged_is = go (ℕ_discrete (record_refusal kind bytes) 0)
    where
      go₃ : RightFrame bytes → IsKind kind bytes → (record_refusal kind bytes ≡ 0 → ⊥) → RecordJudged kind bytes (record_refusal kind bytes)
      go₃ f k n =
          let w : RightBody kind bytes → ⊥ = λ b. n (right-record (record { frame = f; is_kind = k; body = b })) in
          rw (row-63 f k w) (by_63 f k w)

      go₂ : RightFrame bytes → Dec (IsKind kind bytes) → (record_refusal kind bytes ≡ 0 → ⊥) → RecordJudged kind bytes (record_refusal kind bytes)
      go₂ f (yes k) n = go₃ f k n
      go₂ f (no k) n = rw (row-62 f k) (by_62 f k)

      go₁ : Dec (6 ≤ length bytes) → Dec (4 + from_little_endian 256 (take 4 bytes) ≡ length bytes) → (record_refusal kind bytes ≡ 0 → ⊥) → RecordJudged kind bytes (record_refusal kind bytes)
      go₁ (yes h) (yes e) n = go₂ (record { least = h; counted = e }) (ℕ_discrete (from_little_endian 256 (take 2 (drop 4 bytes))) kind.number) n
      go₁ (yes h) (no e) n = rw (row-61 (λ f. e f.counted)) (by_61 (λ f. e f.counted))
      go₁ (no h) d n = rw (row-61 (λ f. h f.least)) (by_61 (λ f. h f.least))

      go : Dec (record_refusal kind bytes ≡ 0) → RecordJudged kind bytes (record_refusal kind bytes)
      go (yes z) = rw z (is_record (record-right z))
      go (no n) = go₁ (dec_le 6 (length bytes)) (ℕ_discrete (4 + from_little_endian 256 (take 4 bytes)) (length bytes)) n

  judged_only : (k : ℕ) → RecordJudged kind bytes k → k ≡ record_refusal kind bytes
  judged_only k (by_61 n) = sym (row-61 n)
  judged_only k (by_62 f n) = sym (row-62 f n)
  judged_only k (by_63 f i n) = sym (row-63 f i n)
  judged_only k (is_record r) = sym (right-record r)

  pub record-cases : RecordCases kind bytes
  record-cases = record { judged_is = judged_is; judged_only = judged_only; zero_pair = λ k f i. row_zero f i k }
