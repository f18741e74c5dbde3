-- What the writer of range lists answers and leaves, row by row (document 01, "Numbers the host sees": 53, 1, 54, 55, then 0), and its text.
use Rattle.std.specs.Prelude.{ℕ, ◌-◌, ◌%◌, ◌≤◌, ◌<◌, ◌≡◌, ◌⊎◌, true, false, List, ◌∷◌, ◌++◌, length}
use Rattle.octets.specs.Decimal.{in_digits, digit_count}
use Rattle.answers.specs.Written.{Refuses, Writes}
use Rattle.ledger.specs.Pairs.{Pairs, none, pair, size}
use Rattle.ledger.specs.Ledger.{obeys, pairs_of}
use Rattle.rangelists.specs.RangeText.{ranges_text, write_ranges, write_ranges_after}

pub record RangeWriting (ledger out : List ℕ) : Type 0 where
  -- 53: its length is odd or above 8,192
  pub wrong_length : (length ledger % 2 ≡ 1) ⊎ (8192 < length ledger) → Refuses (write_ranges ledger out) (write_ranges_after ledger out) out 53
  -- 1: it breaks the ledger rule
  pub broken_rule : length ledger % 2 ≡ 0 → length ledger ≤ 8192 → obeys ledger ≡ false → Refuses (write_ranges ledger out) (write_ranges_after ledger out) out 1
  -- 54: it has no pair
  pub no_pair : length ledger % 2 ≡ 0 → length ledger ≤ 8192 → obeys ledger ≡ true → size (pairs_of ledger) ≡ 0 → Refuses (write_ranges ledger out) (write_ranges_after ledger out) out 54
  -- 55: the text is longer than the lent bytes
  pub too_few_bytes : length ledger % 2 ≡ 0 → length ledger ≤ 8192 → obeys ledger ≡ true → 0 < size (pairs_of ledger)
      → length out < length (ranges_text (pairs_of ledger)) → Refuses (write_ranges ledger out) (write_ranges_after ledger out) out 55
  -- 0
  pub written : length ledger % 2 ≡ 0 → length ledger ≤ 8192 → obeys ledger ≡ true → 0 < size (pairs_of ledger)
      → length (ranges_text (pairs_of ledger)) ≤ length out → Writes (write_ranges ledger out) (write_ranges_after ledger out) out (ranges_text (pairs_of ledger)) (length (ranges_text (pairs_of ledger)))

-- the text: start and last place of each pair without leading zeros, a hyphen between them, and a comma before the next pair
pub record RangesText : Type 0 where
  pub one_pair : (a b : ℕ) → ranges_text (pair a b none) ≡ in_digits (digit_count a) a ++ (45 ∷ in_digits (digit_count (b - 1)) (b - 1))
  pub more_pairs : (a b c d : ℕ) (ps : Pairs)
      → ranges_text (pair a b (pair c d ps)) ≡ ranges_text (pair a b none) ++ (44 ∷ ranges_text (pair c d ps))
