-- Restart range lists and the ledger: what reading and writing them means.
use Rattle.std.specs.Prelude.{ℕ, ◌≤◌, ◌≡◌, true, false, Ok, List, length, take}
use Rattle.ledger.specs.Pairs.{Pairs, size, contains, ObeyFrom, ends_at_most}
use Rattle.ledger.specs.Ledger.{length_wrong, pairs_of, capacity}
use Rattle.rangelists.specs.RangeText.{parts, merged, ranges_of, list_contains, read_ranges, read_ranges_after, write_ranges, write_ranges_after}
use Rattle.rangelists.specs.RangeReading.{Reads}

pub record RangeLists : Type 0 where
  -- the merged set of accepted text obeys the ledger rule, needs no more pairs than there are, and holds exactly the places of the ranges
  -- read, in whatever order they are
  pub reads_the_union : (r : ℕ) (text : List ℕ) (ps : Pairs) → ranges_of r text ≡ merged ps
      → ObeyFrom 0 ps × (size ps ≤ r) × ((p : ℕ) → contains p ps ≡ list_contains p (parts text))
  -- the n bytes that the writer says it wrote are read into any ledger m that has room for the pairs of l, whatever m holds
  pub reads_what_was_written : (l out m : List ℕ) (n : ℕ) → write_ranges l out ≡ Ok n → ends_at_most 18446744073709551615 (pairs_of l) ≡ true
      → length_wrong m ≡ false → size (pairs_of l) ≤ capacity m → Reads (take n (write_ranges_after l out)) m (pairs_of l)
  -- and into one of its own length as l again
  pub reads_the_same : (l out m : List ℕ) (n : ℕ) → write_ranges l out ≡ Ok n → ends_at_most 18446744073709551615 (pairs_of l) ≡ true
      → length m ≡ length l → (read_ranges (take n (write_ranges_after l out)) m ≡ Ok tt) × (read_ranges_after (take n (write_ranges_after l out)) m ≡ l)
