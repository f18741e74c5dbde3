-- `OneRange` holds.
use Prim.Native.Nat.{ℕ, suc, ◌≤◌, ◌<◌}
use mathlib.Core.Path.{◌≡◌, refl, ◌∙◌}
use mathlib.Core.Bool.{true}
use mathlib.Core.List.{List, ◌∷◌, ◌++◌}
use native.Mathlib.Omega.{arith}
use native.Mathlib.Decide.{dec_lt}
use native.Mathlib.Numerals.{add-one}
use lib.ListN.{length, get_or, drop, take, get_or-eq_default}
use lib.Seq.{take-append_seam, get_or-append_seam, drop-append-add, split_at}
use Rattle.std.specs.Prelude.{Option, Some, None}
use Rattle.octets.specs.Decimal.{decimal_value}
use Rattle.texts.specs.Text.{is_digit, all, leading_count}
use Rattle.octets.proofs.Reading.{digits-at}
use Rattle.texts.proofs.Texts.{leading-append}
use Rattle.rangelists.specs.RangeText.{places, range_of}
use Rattle.rangelists.specs.OneRange.{Position, IsRange, OneRange}
use Rattle.rangelists.specs.declared.ranges.Range.{Range}
use Rattle.rangelists.proofs.RangeParsing.{position-is, is-position, range-places, range-sound}

-- the digits before a hyphen are those that the text begins with
run-over : (ds es : List ℕ) → all is_digit ds ≡ true → leading_count is_digit (ds ++ (45 ∷ es)) ≡ length ds
unfolding leading_count
run-over ds es h = omega (arith, leading-append is_digit ds (45 ∷ es) h)

module _ (text : List ℕ) (first last : ℕ) (r : IsRange text first last) where
  run_is : leading_count is_digit text ≡ length r.before
  run_is = rw r.hyphen (run-over r.before r.after (digits-at r.before r.start.digits))

  before-is : take (leading_count is_digit text) text ≡ r.before
  before-is = rw (run_is, r.hyphen) (take-append_seam r.before (45 ∷ r.after))

  hyphen-is : get_or text (leading_count is_digit text) 0 ≡ 45
  hyphen-is = rw (run_is, r.hyphen) (get_or-append_seam r.before 45 r.after 0)

  after_is : drop (suc (leading_count is_digit text)) text ≡ r.after
  after_is = rw (run_is, r.hyphen, ← add-one (length r.before)) (drop-append-add r.before (45 ∷ r.after) 1)

  pub range_reads : range_of text ≡ places first (suc last)
  range_reads =
      let p = range-places text (rw before-is (is-position r.before first r.start)) hyphen-is (rw after_is (is-position r.after last r.end)) in
      p (rw (before-is, after_is, r.start.value_is, r.end.value_is) r.rising) ∙ rw (before-is, after_is, r.start.value_is, r.end.value_is)

range_only : (text : List ℕ) (s e : ℕ) → range_of text ≡ places s e → (last : ℕ) × (e ≡ suc last) × IsRange text s last
range_only text s e h =
    let r = range-sound text s e h in
    let k = leading_count is_digit text in
    let a = take k text in
    let b = drop (suc k) text in
    let split : text ≡ a ++ (45 ∷ b) = go (dec_lt k (length text)) in
    let start : Position a s = rw r.start_is at (position-is a r.start) in (
      decimal_value b,
      r.end_is,
      record { before = a; after = b; hyphen = split; start = start; end = position-is b r.end; rising = omega (arith, r.rising, r.start_is) },
    )
  where
    go : Dec (leading_count is_digit text < length text) → text ≡ take (leading_count is_digit text) text ++ (45 ∷ drop (suc (leading_count is_digit text)) text)
    go (yes l) = rw (range-sound text s e h).hyphen at (split_at text (leading_count is_digit text) 0 l)
    go (no l) =
        let g : length text ≤ leading_count is_digit text = omega arith in
        absurd (omega (arith, (range-sound text s e h).hyphen, get_or-eq_default text 0 g))

else_malformed : (text : List ℕ) → ((first last : ℕ) → IsRange text first last → ⊥) → range_of text ≡ None
else_malformed text n = go (range_of text) refl
  where
    go : (x : Option Range) → range_of text ≡ x → range_of text ≡ None
    go None x = x
    go (Some p) x =
        let r = range_only text p.start p.end x in
        absurd (n p.start r.0 r.2)

pub one-range : OneRange
one-range = record { range_reads = range_reads; range_only = range_only; else_malformed = else_malformed }
