-- What the reader of range lists answers and leaves, row by row (document 01, "Numbers the host sees": 53, then 51 and 52, then 0).
use Rattle.std.specs.Prelude.{ℕ, ◌%◌, ◌≤◌, ◌<◌, ◌≡◌, ◌⊎◌, None, Ok, List, [], ◌∷◌, ◌++◌, length, replicate}
use Rattle.answers.specs.Refusal.{number_in}
use Rattle.ledger.specs.Pairs.{Pairs, none, size, join}
use Rattle.ledger.specs.Ledger.{laid_out, capacity}
use Rattle.rangelists.specs.RangeText.{parts, places, range_of, read_ranges, read_ranges_after}

-- the texts are ranges that, joined to the pairs ps one after another, give qs and never need more than r pairs
pub data Merges (r : ℕ) : Pairs → List (List ℕ) → Pairs → Type 0 where
  no_range : (ps : Pairs) → Merges r ps [] ps
  one_more : (ps qs : Pairs) (t : List ℕ) (ts : List (List ℕ)) (s e : ℕ) → range_of t ≡ places s e → size (join s e ps) ≤ r
      → Merges r (join s e ps) ts qs → Merges r ps (t ∷ ts) qs

-- the first trouble in reading order: the texts before it merge
pub data Trouble (r : ℕ) (texts : List (List ℕ)) : ℕ → Type 0 where
  -- it is malformed
  by_51 : (before after : List (List ℕ)) (t : List ℕ) (ps : Pairs) → texts ≡ before ++ (t ∷ after) → Merges r none before ps
      → range_of t ≡ None → Trouble r texts 51
  -- it is a range, and the merged set with it needs more than r pairs
  by_52 : (before after : List (List ℕ)) (t : List ℕ) (ps : Pairs) (s e : ℕ) → texts ≡ before ++ (t ∷ after) → Merges r none before ps
      → range_of t ≡ places s e → r < size (join s e ps) → Trouble r texts 52

-- the text is read: the ledger holds these pairs, and zeros after them
pub record Reads (text ledger : List ℕ) (ps : Pairs) : Type 0 where
  pub accepted : read_ranges text ledger ≡ Ok tt
  pub number : number_in (read_ranges text ledger) ≡ 0
  pub after : read_ranges_after text ledger ≡ laid_out (capacity ledger) ps

-- the text is refused with this number, and the ledger becomes this one
pub record Refuses (text ledger : List ℕ) (k : ℕ) (after : List ℕ) : Type 0 where
  pub number : number_in (read_ranges text ledger) ≡ k
  pub after_is : read_ranges_after text ledger ≡ after

pub record RangeReading (text ledger : List ℕ) : Type 0 where
  -- 53: a ledger whose length is odd or above 8,192 stays as it is
  pub wrong_length : (length ledger % 2 ≡ 1) ⊎ (8192 < length ledger) → Refuses text ledger 53 ledger
  -- 51 or 52: the first trouble, which leaves the ledger all zero; no other text has a number above 0
  pub trouble_is : length ledger % 2 ≡ 0 → length ledger ≤ 8192 → (k : ℕ) → Trouble (capacity ledger) (parts text) k
      → Refuses text ledger k (replicate (length ledger) 0)
  pub trouble_only : length ledger % 2 ≡ 0 → length ledger ≤ 8192 → 0 < number_in (read_ranges text ledger)
      → Trouble (capacity ledger) (parts text) (number_in (read_ranges text ledger))
  -- 0: the merged pairs, and zeros after them; no other text has the number 0
  pub merged_is : length ledger % 2 ≡ 0 → length ledger ≤ 8192 → (ps : Pairs) → Merges (capacity ledger) none (parts text) ps
      → Reads text ledger ps
  pub merged_only : length ledger % 2 ≡ 0 → length ledger ≤ 8192 → number_in (read_ranges text ledger) ≡ 0
      → (ps : Pairs) × Merges (capacity ledger) none (parts text) ps
