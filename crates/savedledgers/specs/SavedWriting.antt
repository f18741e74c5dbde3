-- What the writer of a saved ledger of kind 1 answers and leaves, row by row (document 01, "Numbers the host sees": 53, 1, 55, then 0), and its bytes.
use Rattle.std.specs.Prelude.{ℕ, ◌+◌, ◌*◌, ◌%◌, ◌≤◌, ◌<◌, ◌≡◌, ◌⊎◌, true, false, List, ◌++◌, length}
use Rattle.octets.specs.Digits.{to_little_endian}
use Rattle.answers.specs.Written.{Refuses, Writes}
use Rattle.ledger.specs.Pairs.{Pairs, size}
use Rattle.ledger.specs.Ledger.{obeys, pairs_of}
use Rattle.savedrecords.specs.Record.{pair_bytes}
use Rattle.savedrecords.specs.declared.kind.SecondNumber.TheVariants.{End}
use Rattle.savedledgers.specs.Saved.{saved_of, write_saved, write_saved_after}
use Rattle.savedledgers.specs.SavedReading.{RightLength}

pub record SavedWriting (ledger out : List ℕ) : Type 0 where
  -- 53: its length is odd or above 8,192
  pub wrong_length : (length ledger % 2 ≡ 1) ⊎ (8192 < length ledger) → Refuses (write_saved ledger out) (write_saved_after ledger out) out 53
  -- 1: it breaks the ledger rule
  pub broken_rule : RightLength ledger → obeys ledger ≡ false → Refuses (write_saved ledger out) (write_saved_after ledger out) out 1
  -- 55: fewer bytes are lent than six and sixteen for each pair
  pub too_few_bytes : RightLength ledger → obeys ledger ≡ true → length out < 6 + 16 * size (pairs_of ledger) → Refuses (write_saved ledger out) (write_saved_after ledger out) out 55
  -- 0
  pub written : RightLength ledger → obeys ledger ≡ true → 6 + 16 * size (pairs_of ledger) ≤ length out
      → Writes (write_saved ledger out) (write_saved_after ledger out) out (saved_of (pairs_of ledger)) (6 + 16 * size (pairs_of ledger))

-- the bytes, each number least significant byte first: how many follow the first four, the kind, and start and end of each pair
pub record SavedBytes : Type 0 where
  pub all_bytes : (ps : Pairs) → saved_of ps ≡ to_little_endian 256 4 (2 + 16 * size ps) ++ (to_little_endian 256 2 1 ++ pair_bytes End ps)
