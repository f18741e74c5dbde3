-- The record that bytes begin with: judged case by case, with more bytes after it, and one that was written.
use Prim.Native.Nat.{ℕ, ◌+◌, ◌^◌, ◌≤◌, ◌<◌}
use mathlib.Core.Path.{◌≡◌, refl, sym, ap, ◌∙◌}
use mathlib.Core.Bool.{Bool, false, ◌&&◌, and-false}
use mathlib.Core.List.{List, [], ◌∷◌, ◌++◌}
use native.Mathlib.Omega.{arith}
use native.Mathlib.Decide.{dec_le}
use borrow.Author.Tests.{lt-ltb, le-ltb, le-leb, lt-leb, ne_eqb}
use lib.Dec.{leb, ltb}
use lib.ListN.{length, length-append}
use Rattle.frames.specs.Frame.{field_length, length_field, frame_of, framed, record_length, first_record}
use Rattle.frames.specs.declared.frame.First.{First}
use Rattle.frames.specs.declared.frame.First.TheVariants.{Nothing, Cut, TooLong, Whole}
use Rattle.frames.proofs.Framed.{length_field-append, length-frame_of, length_field-frame_of, framed-before}

-- ---- its length

module _ (bytes : List ℕ) where
  pub record_length-short : length bytes < field_length → record_length bytes ≡ field_length
  unfolding record_length
  record_length-short h = rw (lt-ltb (length bytes) field_length h)

  pub record_length-field : field_length ≤ length bytes → record_length bytes ≡ field_length + length_field bytes
  unfolding record_length
  record_length-field h = rw (le-ltb (length bytes) field_length h)

-- ---- judged

-- the length field is there, and says more than the limit
abbrev beyond : ℕ → List ℕ → Bool
beyond limit bytes = leb field_length (length bytes) && ltb limit (length_field bytes)

beyond-no : (limit : ℕ) (bytes : List ℕ) → (field_length ≤ length bytes → length_field bytes ≤ limit) → beyond limit bytes ≡ false
beyond-no limit bytes fits = go (dec_le field_length (length bytes))
  where
    go : Dec (field_length ≤ length bytes) → beyond limit bytes ≡ false
    go (yes h) = rw (le-ltb limit (length_field bytes) (fits h)) (and-false (leb field_length (length bytes)))
    go (no h) = rw (lt-leb field_length (length bytes) (omega arith))

module _ (limit : ℕ) (bytes : List ℕ) where
  pub first_record-nothing : length bytes ≡ 0 → first_record limit bytes ≡ Nothing
  unfolding first_record
  first_record-nothing e = rw e

  pub first_record-long : field_length ≤ length bytes → limit < length_field bytes → first_record limit bytes ≡ TooLong
  unfolding first_record
  first_record-long h g = rw (ne_eqb (length bytes) 0 (omega arith), le-leb field_length (length bytes) h, lt-ltb limit (length_field bytes) g)

  -- bytes are there, and their length field, if it is there, says no more than the limit
  module _ (some : 0 < length bytes) (fits : field_length ≤ length bytes → length_field bytes ≤ limit) where
    pub first_record-cut : length bytes < record_length bytes → first_record limit bytes ≡ Cut
    unfolding first_record
    first_record-cut h = rw (ne_eqb (length bytes) 0 (omega arith), beyond-no limit bytes fits, lt-ltb (length bytes) (record_length bytes) h)

    pub first_record-whole : record_length bytes ≤ length bytes → first_record limit bytes ≡ Whole (record_length bytes)
    unfolding first_record
    first_record-whole h = rw (ne_eqb (length bytes) 0 (omega arith), beyond-no limit bytes fits, le-ltb (length bytes) (record_length bytes) h)

pub first-of-none : (limit : ℕ) → first_record limit [] ≡ Nothing
first-of-none limit = first_record-nothing limit [] refl

-- ---- what a judgement tells of the bytes

-- what holds of bytes that are judged so
abbrev Tells : ℕ → List ℕ → First → Type 0
Tells limit bytes Nothing = bytes ≡ []
Tells limit bytes Cut = (0 < length bytes) × (length bytes < record_length bytes) × (record_length bytes ≤ field_length + limit)
Tells limit bytes TooLong = (field_length ≤ length bytes) × (limit < length_field bytes)
Tells limit bytes (Whole n) = (n ≡ record_length bytes) × (record_length bytes ≤ length bytes) × (field_length ≤ length bytes) × (length_field bytes ≤ limit)

tells-some : (limit : ℕ) (bytes : List ℕ) → 0 < length bytes → Tells limit bytes (first_record limit bytes)
tells-some limit bytes some = go (dec_le field_length (length bytes)) (dec_le (length_field bytes) limit) (dec_le (record_length bytes) (length bytes))
  where
    go : Dec (field_length ≤ length bytes) → Dec (length_field bytes ≤ limit) → Dec (record_length bytes ≤ length bytes) → Tells limit bytes (first_record limit bytes)
    go (yes h) (yes g) (yes l) = rw (first_record-whole limit bytes some (λ f. g) l) (refl, l, h, g)
    go (yes h) (yes g) (no l) = rw (first_record-cut limit bytes some (λ f. g) (omega arith)) (some, omega arith, omega (arith, record_length-field bytes h))
    go (yes h) (no g) d = rw (first_record-long limit bytes h (omega arith)) (h, omega arith)
    go (no h) d₁ d₂ =
        let e = record_length-short bytes (omega arith) in
        rw (first_record-cut limit bytes some (λ f. absurd (h f)) (omega (arith, e))) (some, omega (arith, e), omega (arith, e))

tells : (limit : ℕ) (bytes : List ℕ) → Tells limit bytes (first_record limit bytes)
tells limit [] = rw (first-of-none limit) refl
tells limit (x ∷ xs) = tells-some limit (x ∷ xs) (omega arith)

pub first-nothing : (limit : ℕ) (a : List ℕ) → first_record limit a ≡ Nothing → a ≡ []
first-nothing limit a e = rw e at (tells limit a)

pub first-cut : (limit : ℕ) (a : List ℕ) → first_record limit a ≡ Cut → (0 < length a) × (length a < record_length a) × (record_length a ≤ 4 + limit)
first-cut limit a e = rw e at (tells limit a)

pub first-long : (limit : ℕ) (a : List ℕ) → first_record limit a ≡ TooLong → (4 ≤ length a) × (limit < length_field a)
first-long limit a e = rw e at (tells limit a)

pub first-whole : (limit : ℕ) (a : List ℕ) (n : ℕ) → first_record limit a ≡ Whole n → n ≡ record_length a
first-whole limit a n e = let t : Tells limit a (Whole n) = rw e at (tells limit a) in t.0

-- ---- with more bytes after it

pub record_length-append : (a b : List ℕ) → field_length ≤ length a → record_length (a ++ b) ≡ record_length a
record_length-append a b h =
    record_length-field (a ++ b) (omega (arith, length-append a b)) ∙ rw (length_field-append a b h) (sym (record_length-field a h))

pub first-prefix-whole : (limit : ℕ) (a b : List ℕ) (n : ℕ) → first_record limit a ≡ Whole n
    → (first_record limit (a ++ b) ≡ Whole n) × (n ≤ length a) × (4 ≤ n) × (n ≤ 4 + limit)
first-prefix-whole limit a b n e =
    let t : Tells limit a (Whole n) = rw e at (tells limit a) in
    let r = record_length-field a t.2 in
    let s = record_length-append a b t.2 in
    let l = length-append a b in
    let w = first_record-whole limit (a ++ b) (omega (arith, t.2, l)) (λ h. rw (length_field-append a b t.2) t.3) (omega (arith, t.1, s, l)) in
    (w ∙ ap Whole (s ∙ sym t.0), omega (arith, t.0, t.1), omega (arith, t.0, r), omega (arith, t.0, t.3, r))

pub first-prefix-long : (limit : ℕ) (a b : List ℕ) → first_record limit a ≡ TooLong → first_record limit (a ++ b) ≡ TooLong
first-prefix-long limit a b e =
    let t : Tells limit a TooLong = rw e at (tells limit a) in
    first_record-long limit (a ++ b) (omega (arith, t.0, length-append a b)) (rw (length_field-append a b t.0) t.1)

-- ---- one that was written, before other bytes

pub first-framed : (limit kind : ℕ) (body rest : List ℕ) → kind < 2 ^ 16 → 2 + length body < 2 ^ 32 → 2 + length body ≤ limit
    → first_record limit (framed kind body ++ rest) ≡ Whole (6 + length body)
first-framed limit kind body rest k h g =
    let n = length body in
    let bytes = frame_of kind n ++ (body ++ rest) in
    let f : length_field bytes ≡ 2 + n = length_field-frame_of kind n (body ++ rest) h in
    let l : length bytes ≡ 6 + (n + length rest) =
    length-append (frame_of kind n) (body ++ rest) ∙ rw (length-frame_of kind n, length-append body rest) in
    let r = record_length-field bytes (omega arith) in
    rw (framed-before kind body rest)
    (first_record-whole limit bytes (omega arith) (λ z. omega (arith, f)) (omega (arith, f, r)) ∙ ap Whole (r ∙ omega (arith, f)))
