-- Whether a range of a text is malformed, and where the reader says so: `MalformedRanges` holds.
use Prim.Native.Nat.{ℕ, suc, ◌+◌, ◌*◌, ◌%◌, ◌≤◌}
use mathlib.Core.Path.{◌≡◌, refl, sym, ap, ◌∙◌}
use mathlib.Core.Bool.{Bool, true, false, cond, ◌||◌, or-true, false≢true}
use mathlib.Core.List.{List, [], ◌∷◌, ◌++◌}
use native.Mathlib.Omega.{arith}
use borrow.Author.Tests.{le-ltb}
use lib.ListN.{length, length-append}
use lib.Seq.{append_snoc}
use Rattle.std.specs.Prelude.{Option, Some, None, Ok, Err}
use Rattle.octets.specs.Digits.{from_big_endian, from_little_endian}
use Rattle.octets.specs.Decimal.{decimal_value}
use Rattle.texts.specs.Text.{all, leading_count}
use Rattle.ledger.specs.Pairs.{Pairs, none, size, join}
use Rattle.ledger.specs.Ledger.{capacity}
use Rattle.ledger.proofs.PairsJoin.{join-size}
use Rattle.ledger.proofs.LedgerSizes.{length-right}
use Rattle.rangelists.specs.RangeText.{is_position, range_of, prepend_to_first, parts, is_malformed, some_malformed, ranges_among, has_malformed, range_count, merge_range, merged_from, ranges_of, loaded, read_ranges}
use Rattle.rangelists.specs.Parts.{with_commas}
use Rattle.rangelists.specs.MalformedRanges.{HasMalformed, MalformedRanges}
use Rattle.rangelists.specs.declared.ranges.Range.{Range}
use Rattle.rangelists.proofs.Parts.{parted}
use Rattle.rangelists.proofs.OneRange.{one-range}
use Rattle.rangelists.proofs.RangeReading.{answer_is}

-- ---- the test

malformed-among : (before after : List (List ℕ)) (t : List ℕ) → range_of t ≡ None → some_malformed (before ++ (t ∷ after)) ≡ true
unfolding is_malformed some_malformed
malformed-among [] after t e = rw e
malformed-among (u ∷ before) after t e = rw (malformed-among before after t e, or-true (is_malformed (range_of u)))

malformed_true : (text : List ℕ) → HasMalformed text → has_malformed text ≡ true
unfolding has_malformed
malformed_true text m = rw m.among (malformed-among m.before m.after m.malformed (one-range.else_malformed m.malformed m.no_range))

-- the first of the remaining texts that is malformed
first-malformed : (text : List ℕ) (before ts : List (List ℕ)) → parts text ≡ before ++ ts → some_malformed ts ≡ true → HasMalformed text
unfolding is_malformed some_malformed
first-malformed text before [] e h = absurd (false≢true h)
first-malformed text before (t ∷ ts) e h = go (range_of t) refl h (first-malformed text (before ++ (t ∷ [])) ts (e ∙ sym (append_snoc before t ts)))
  where
    go : (x : Option Range) → range_of t ≡ x → (is_malformed x || some_malformed ts) ≡ true → (some_malformed ts ≡ true → HasMalformed text) → HasMalformed text
    go None x k i =
        record {
          before = before;
          malformed = t;
          after = ts;
          among = e;
          no_range = λ first last r.
              let y = one-range.range_reads t first last r in
              let z : ◌≡◌ {A = ℕ} 0 1 = cc in
              omega arith;
        }
    go (Some p) x k i = i k

true_malformed : (text : List ℕ) → has_malformed text ≡ true → HasMalformed text
unfolding has_malformed
true_malformed text h = first-malformed text [] (parts text) refl h

-- ---- the reader

-- with a pair for each range that is still to come, nothing but a malformed text stops it
merged-answers : (r : ℕ) (ps : Pairs) (ts : List (List ℕ)) → size ps + ranges_among ts ≤ r → loaded (merged_from r ps ts) ≡ cond (some_malformed ts) (Err 51) (Ok tt)
unfolding is_malformed some_malformed ranges_among merge_range merged_from loaded
merged-answers r ps [] h = refl
merged-answers r ps (t ∷ ts) h = go (range_of t) h (λ qs. merged-answers r qs ts)
  where
    go : (x : Option Range) → size ps + (cond (is_malformed x) 0 1 + ranges_among ts) ≤ r
        → ((qs : Pairs) → size qs + ranges_among ts ≤ r → loaded (merged_from r qs ts) ≡ cond (some_malformed ts) (Err 51) (Ok tt))
        → loaded (merge_range r ps x (λ qs. merged_from r qs ts)) ≡ cond (is_malformed x || some_malformed ts) (Err 51) (Ok tt)
    go None k i = refl
    go (Some p) k i =
        let n = join-size p.start p.end ps in
        rw (le-ltb r (size (join p.start p.end ps)) (omega (arith, n))) (i (join p.start p.end ps) (omega (arith, n)))

by_the_text : (text ledger : List ℕ) → length ledger % 2 ≡ 0 → length ledger ≤ 8192 → 2 * range_count text ≤ length ledger
    → read_ranges text ledger ≡ cond (has_malformed text) (Err 51) (Ok tt)
unfolding size has_malformed range_count ranges_of
by_the_text text ledger e l h = answer_is text ledger (length-right ledger e l) ∙ merged-answers (capacity ledger) none (parts text) (omega arith)

-- ---- how many ranges a text has

ranges-few : (ts : List (List ℕ)) → ranges_among ts ≤ length ts
unfolding ranges_among
ranges-few [] = omega arith
ranges-few (t ∷ ts) = go (is_malformed (range_of t)) (ranges-few ts)
  where
    go : (b : Bool) → ranges_among ts ≤ length ts → cond b 0 1 + ranges_among ts ≤ suc (length ts)
    go true i = omega arith
    go false i = omega arith

-- a range has three bytes or more
range-bytes : (t : List ℕ) → 4 * cond (is_malformed (range_of t)) 0 1 ≤ suc (length t)
unfolding is_malformed
range-bytes t = go (range_of t) refl
  where
    go : (x : Option Range) → range_of t ≡ x → 4 * cond (is_malformed x) 0 1 ≤ suc (length t)
    go None x = omega arith
    go (Some p) x =
        let r = (one-range.range_only t p.start p.end x).2 in
        omega (arith, ap length r.hyphen, length-append r.before (45 ∷ r.after), r.start.shortest, r.end.shortest)

ranges-bytes : (ts : List (List ℕ)) → 4 * ranges_among ts ≤ suc (length (with_commas ts))
unfolding ranges_among with_commas
ranges-bytes [] = omega arith
ranges-bytes (t ∷ []) = omega (arith, range-bytes t)
ranges-bytes (t ∷ u ∷ ts) = omega (arith, range-bytes t, ranges-bytes (u ∷ ts), length-append t (44 ∷ with_commas (u ∷ ts)))

at_most_parts : (text : List ℕ) → range_count text ≤ length (parts text)
unfolding range_count
at_most_parts text = ranges-few (parts text)

four_bytes_each : (text : List ℕ) → 4 * range_count text ≤ length text + 1
unfolding range_count
four_bytes_each text = omega (arith, ranges-bytes (parts text), ap length (parted.joined text))

pub malformed-ranges : MalformedRanges
unfolding from_big_endian from_little_endian leading_count all decimal_value is_position range_of prepend_to_first parts is_malformed some_malformed ranges_among has_malformed range_count
malformed-ranges =
    record {
      malformed_true = malformed_true;
      true_malformed = true_malformed;
      by_the_text = by_the_text;
      at_most_parts = at_most_parts;
      four_bytes_each = four_bytes_each;
      shortest = (refl, refl);
      no_digit = (refl, refl);
    }
