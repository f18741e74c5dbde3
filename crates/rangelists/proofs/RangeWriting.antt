-- What the writer of range lists answers and leaves, case by case: `RangeWriting` and `RangesText` hold.
use Prim.Native.Nat.{ℕ, ◌<◌, ◌≤◌}
use mathlib.Core.Path.{◌≡◌, refl, sym, ◌∙◌}
use mathlib.Core.Bool.{true, false}
use mathlib.Core.List.{List, ◌++◌}
use native.Mathlib.Omega.{arith}
use native.Mathlib.Decide.{dec_lt}
use borrow.Author.Tests.{eq-eqb, ne_eqb}
use lib.ListN.{length, drop}
use Rattle.std.specs.Prelude.{Ok}
use Rattle.octets.specs.Decimal.{decimal}
use Rattle.answers.specs.Written.{room_refusal, Refuses}
use Rattle.answers.proofs.WrittenBy.{first_some, first-none, first-zero, room-short, room-enough, written, written-only, refuses, writes}
use Rattle.ledger.specs.Pairs.{size}
use Rattle.ledger.specs.Ledger.{length_wrong, obeys, pairs_of, ledger_refusal}
use Rattle.ledger.proofs.LedgerSizes.{length-right, length-wrong}
use Rattle.ledger.proofs.LedgerRefusal.{refusal-53, refusal-1, refusal-none, refusal-zero}
use Rattle.rangelists.specs.RangeText.{range_text, ranges_text, write_ranges_refusal, write_ranges, write_ranges_after}
use Rattle.rangelists.specs.RangeWriting.{RangeWriting, RangesText}

-- ---- the number of a refusal

module _ (ledger out : List ℕ) where
  pub number-refused : (k : ℕ) → ledger_refusal ledger ≡ k → 0 < k → write_ranges_refusal ledger out ≡ k
  unfolding write_ranges_refusal
  number-refused k e h = first_some (ledger_refusal ledger) _ (omega arith) ∙ e

  module _ (a : ledger_refusal ledger ≡ 0) where
    pub number-54 : size (pairs_of ledger) ≡ 0 → write_ranges_refusal ledger out ≡ 54
    unfolding write_ranges_refusal
    number-54 z = first-none (ledger_refusal ledger) _ a ∙ rw (eq-eqb (size (pairs_of ledger)) 0 z)

    module _ (z : size (pairs_of ledger) ≡ 0 → ⊥) where
      only-room : write_ranges_refusal ledger out ≡ room_refusal (length (ranges_text (pairs_of ledger))) out
      unfolding write_ranges_refusal
      only-room = first-none (ledger_refusal ledger) _ a ∙ rw (ne_eqb (size (pairs_of ledger)) 0 z)

      pub number-55 : length out < length (ranges_text (pairs_of ledger)) → write_ranges_refusal ledger out ≡ 55
      number-55 h = only-room ∙ room-short _ out h

      pub number_0 : length (ranges_text (pairs_of ledger)) ≤ length out → write_ranges_refusal ledger out ≡ 0
      number_0 h = only-room ∙ room-enough _ out h

-- ---- the answer and the lent bytes

-- what a writer that writes n bytes has tested, and the lent bytes after it
pub record Accepted (ledger out : List ℕ) (n : ℕ) : Type 0 where
  pub lengths : length_wrong ledger ≡ false
  pub ruled : obeys ledger ≡ true
  pub some : 0 < size (pairs_of ledger)
  pub bytes : length (ranges_text (pairs_of ledger)) ≡ n
  pub after : write_ranges_after ledger out ≡ ranges_text (pairs_of ledger) ++ drop (length (ranges_text (pairs_of ledger))) out

pub accepted : (ledger out : List ℕ) (n : ℕ) → write_ranges ledger out ≡ Ok n → Accepted ledger out n
unfolding write_ranges write_ranges_after write_ranges_refusal
accepted ledger out n e =
    let w = written-only (write_ranges_refusal ledger out) _ n e in
    let z = (first-zero (ledger_refusal ledger) _ w.0).0 in
    let t = refusal-zero ledger z in
    record {
      lengths = t.0;
      ruled = t.1;
      some = go (dec_lt 0 (size (pairs_of ledger))) z w.0;
      bytes = w.1;
      after = sym (written _ n (ranges_text (pairs_of ledger)) out w.0).1;
    }
  where
    go : Dec (0 < size (pairs_of ledger)) → ledger_refusal ledger ≡ 0 → write_ranges_refusal ledger out ≡ 0 → 0 < size (pairs_of ledger)
    go (yes h) z e = h
    go (no h) z e = absurd (omega (arith, e, number-54 ledger out z (omega arith)))

-- ---- the rows

module _ (ledger out : List ℕ) where
  refused : (k : ℕ) → write_ranges_refusal ledger out ≡ k → 0 < k → Refuses (write_ranges ledger out) (write_ranges_after ledger out) out k
  unfolding write_ranges write_ranges_after
  refused k e h = refuses (write_ranges_refusal ledger out) _ (ranges_text (pairs_of ledger)) out k e h

  pub range-writing : RangeWriting ledger out
  unfolding write_ranges write_ranges_after
  range-writing =
      record {
        wrong_length = λ o. refused 53 (number-refused ledger out 53 (refusal-53 ledger (length-wrong ledger o)) (omega arith)) (omega arith);
        broken_rule = λ e l o. refused 1 (number-refused ledger out 1 (refusal-1 ledger (length-right ledger e l) o) (omega arith)) (omega arith);
        no_pair = λ e l o z. refused 54 (number-54 ledger out (refusal-none ledger (length-right ledger e l) o) z) (omega arith);
        too_few_bytes = λ e l o s h. refused 55 (number-55 ledger out (refusal-none ledger (length-right ledger e l) o) (omega arith) h) (omega arith);
        written = λ e l o s h.
            writes (write_ranges_refusal ledger out) _ (ranges_text (pairs_of ledger)) out
            (number_0 ledger out (refusal-none ledger (length-right ledger e l) o) (omega arith) h) refl;
      }

pub ranges-text : RangesText
unfolding ranges_text range_text decimal
ranges-text = record { one_pair = λ a b. refl; more_pairs = λ a b c d ps. refl }
