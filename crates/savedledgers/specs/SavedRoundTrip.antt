-- A saved ledger of kind 1, there and back.
use Rattle.std.specs.Prelude.{ℕ, ◌≤◌, ◌≡◌, true, false, Ok, List, [], ◌∷◌, ◌++◌, length, take, drop}
use Rattle.octets.specs.Digits.{AllBelow}
use Rattle.ledger.specs.Pairs.{none, pair, size, ends_at_most}
use Rattle.ledger.specs.Ledger.{length_wrong, capacity, obeys, pairs_of}
use Rattle.savedrecords.specs.Kind.{kind_one}
use Rattle.savedledgers.specs.Saved.{read_refusal, read_saved, read_saved_after, saved_of, write_saved, write_saved_after}
use Rattle.savedledgers.specs.SavedReading.{Reads}

-- the ledger l is written as the bytes h, before what else is lent
pub record WritesBack (h l : List ℕ) : Type 0 where
  pub ruled : obeys l ≡ true
  pub same : saved_of (pairs_of l) ≡ h
  pub writes : (out : List ℕ) → length h ≤ length out → (write_saved l out ≡ Ok (length h)) × (write_saved_after l out ≡ h ++ drop (length h) out)

pub record SavedRoundTrip : Type 0 where
  -- the n bytes that the writer says it wrote are read into any ledger m that has room for the pairs of l, whatever m holds
  pub reads_what_was_saved : (l out m : List ℕ) (n : ℕ) → write_saved l out ≡ Ok n → ends_at_most 18446744073709551615 (pairs_of l) ≡ true
      → length_wrong m ≡ false → size (pairs_of l) ≤ capacity m → Reads kind_one (take n (write_saved_after l out)) m (pairs_of l)
  -- and into one of its own length as l again
  pub reads_the_same : (l out m : List ℕ) (n : ℕ) → write_saved l out ≡ Ok n → ends_at_most 18446744073709551615 (pairs_of l) ≡ true
      → length m ≡ length l → (read_saved (take n (write_saved_after l out)) m ≡ Ok tt) × (read_saved_after (take n (write_saved_after l out)) m ≡ l)
  -- whatever bytes are read, the ledger read from them obeys its rule and is written as these bytes again
  pub writes_what_was_read : (h m : List ℕ) → AllBelow 256 h → read_refusal kind_one h m ≡ 0 → WritesBack h (read_saved_after h m)
  -- document 01's two records: no pair, and the bytes 0 to 89
  pub empty : saved_of none ≡ 0x02 ∷ 0 ∷ 0 ∷ 0 ∷ 0x01 ∷ 0 ∷ []
  pub first_ninety : saved_of (pair 0 90 none)
      ≡ 0x12 ∷ 0 ∷ 0 ∷ 0 ∷ 0x01 ∷ 0 ∷ 0 ∷ 0 ∷ 0 ∷ 0 ∷ 0 ∷ 0 ∷ 0 ∷ 0 ∷ 0x5A ∷ 0 ∷ 0 ∷ 0 ∷ 0 ∷ 0 ∷ 0 ∷ 0 ∷ []
