-- Whether a range of a text is malformed, and how many pairs the reader needs to say so: with fewer a 52 can come before the 51.
use Rattle.std.specs.Prelude.{ℕ, ◌+◌, ◌*◌, ◌%◌, ◌≤◌, ◌≡◌, true, false, cond, Ok, Err, List, [], ◌∷◌, ◌++◌, length}
use Rattle.rangelists.specs.RangeText.{parts, has_malformed, range_count, read_ranges}
use Rattle.rangelists.specs.OneRange.{IsRange}

-- one of the texts that the commas part is no range
pub record HasMalformed (text : List ℕ) : Type 0 where
  pub before : List (List ℕ)
  pub malformed : List ℕ
  pub after : List (List ℕ)
  pub among : parts text ≡ before ++ (malformed ∷ after)
  pub no_range : (first last : ℕ) → IsRange malformed first last → ⊥

pub record MalformedRanges : Type 0 where
  -- the test says it, and says nothing else
  pub malformed_true : (text : List ℕ) → HasMalformed text → has_malformed text ≡ true
  pub true_malformed : (text : List ℕ) → has_malformed text ≡ true → HasMalformed text
  -- into as many pairs as the text has ranges, those that are malformed not counted: 51 where one is malformed, else 0; never 52
  pub by_the_text : (text ledger : List ℕ) → length ledger % 2 ≡ 0 → length ledger ≤ 8192 → 2 * range_count text ≤ length ledger
      → read_ranges text ledger ≡ cond (has_malformed text) (Err 51) (Ok tt)
  -- these are no more than the texts between the commas, nor than a range for every four bytes, the last one's comma counted
  pub at_most_parts : (text : List ℕ) → range_count text ≤ length (parts text)
  pub four_bytes_each : (text : List ℕ) → 4 * range_count text ≤ length text + 1
  -- 0-0, the shortest range, and x, which is none
  pub shortest : (has_malformed (48 ∷ 45 ∷ 48 ∷ []) ≡ false) × (range_count (48 ∷ 45 ∷ 48 ∷ []) ≡ 1)
  pub no_digit : (has_malformed (120 ∷ []) ≡ true) × (range_count (120 ∷ []) ≡ 0)
