-- A range claimed in the claimed ledger and, where it is doubtful, in the doubtful one.
use Rattle.std.specs.Prelude.{ℕ, ◌<◌, ◌≡◌, Bool, cond, List}
use Rattle.ledger.specs.Ledger.{pairs_of}
use Rattle.transfer.specs.Header.{claim_fault}
use Rattle.transfer.specs.Receive.{with_range}

-- the range from s to e gave the fault k, 0 being none, and of the ledgers l and d, each of R pairs, it left m and n
pub record ClaimResult (R s e : ℕ) (doubt : Bool) (l d : List ℕ) (k : ℕ) (m n : List ℕ) : Type 0 where
  pub fault_is : k ≡ claim_fault R (pairs_of l) (pairs_of d) s e doubt
  -- a fault changes neither
  pub unchanged : 0 < k → (m ≡ l) × (n ≡ d)
  pub claimed : k ≡ 0 → m ≡ with_range R s e l
  pub doubted : k ≡ 0 → n ≡ cond doubt (with_range R s e d) d
