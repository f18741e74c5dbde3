-- What start answers and leaves (document 01, "One transfer", number 5; document 02, Item 3).
use Rattle.std.specs.Prelude.{ℕ, ◌/◌, ◌%◌, ◌≤◌, ◌<◌, ◌≡◌, ◌≢◌, List, length, replicate}
use Rattle.transfer.specs.declared.state.Transfer.{Transfer}
use Rattle.transfer.specs.Transfer.{fresh, start_refusal, start_of, start_after}

-- the number, 0 where start is accepted; the transfer; the two ledgers
abbrev pub Leaves : ℕ → List ℕ → List ℕ → ℕ → Transfer → List ℕ → List ℕ → Type 0
Leaves f claimed doubtful number t claimed_after doubtful_after =
    (start_refusal claimed doubtful ≡ number) × (start_of f claimed doubtful ≡ t)
    × (start_after claimed doubtful claimed ≡ claimed_after) × (start_after claimed doubtful doubtful ≡ doubtful_after)

-- 5: the ledgers are left as they were, and the transfer is that of no bytes and no pairs
abbrev pub RefusedBy5 : ℕ → List ℕ → List ℕ → Type 0
RefusedBy5 f claimed doubtful = Leaves f claimed doubtful 5 (fresh 0 0) claimed doubtful

pub record Start : Type 0 where
  -- whole pairs, not too many, and as many doubtful as claimed: a fresh transfer, and both ledgers zeroed
  pub accepted : (f : ℕ) (claimed doubtful : List ℕ) → length claimed % 2 ≡ 0 → length claimed ≤ 8192 → length doubtful ≡ length claimed
      → Leaves f claimed doubtful 0 (fresh f (length claimed / 2)) (replicate (length claimed) 0) (replicate (length doubtful) 0)
  -- 5 in any other case
  pub odd : (f : ℕ) (claimed doubtful : List ℕ) → length claimed % 2 ≢ 0 → RefusedBy5 f claimed doubtful
  pub long : (f : ℕ) (claimed doubtful : List ℕ) → 8192 < length claimed → RefusedBy5 f claimed doubtful
  pub unequal : (f : ℕ) (claimed doubtful : List ℕ) → length doubtful ≢ length claimed → RefusedBy5 f claimed doubtful
  -- at the limit: 8,192 entries each are 4,096 pairs; one entry more, or one pair more, is refused
  pub last_accepted : (f : ℕ) (claimed doubtful : List ℕ) → length claimed ≡ 8192 → length doubtful ≡ 8192
      → Leaves f claimed doubtful 0 (fresh f 4096) (replicate (length claimed) 0) (replicate (length doubtful) 0)
  pub first_refused : (f : ℕ) (claimed doubtful : List ℕ) → length claimed ≡ 8193 → RefusedBy5 f claimed doubtful
  pub first_even_refused : (f : ℕ) (claimed doubtful : List ℕ) → length claimed ≡ 8194 → RefusedBy5 f claimed doubtful
