-- What a transfer counts, its verdict, its stored and its doubtful bytes, and the fresh one (document 01, "One transfer"; document 02, Item 3).
use Rattle.std.specs.Prelude.{ℕ, ◌+◌, ◌*◌, ◌-◌, Bool, cond, ◌&&◌, ◌||◌, not, List, [], ◌∷◌, ltb, eqb, length, replicate}
use Rattle.ledger.specs.Pairs.{total}
use Rattle.ledger.specs.Ledger.{length_wrong, pairs_of, has_pair, capacity}
use Rattle.transfer.specs.declared.state.Channel.{Channel}
use Rattle.transfer.specs.declared.state.Transfer.{Transfer}
use Rattle.transfer.specs.Channel.{channel_count, held_limit, blank}

-- ---- counts over the channels

-- a number for each, added up
unfoldable pub sum {ℓ} : {A : Type ℓ} → (A → ℕ) → List A → ℕ
sum f [] = 0
sum f (x ∷ xs) = f x + sum f xs

abbrev pub one_if_ended : Channel → ℕ
one_if_ended k = cond (eqb k.state 4) 1 0

-- in a header or in a payload
abbrev pub one_if_active : Channel → ℕ
one_if_active k = cond (ltb 0 k.state && ltb k.state 4) 1 0

unfoldable pub ended_of : Transfer → ℕ
ended_of t = sum one_if_ended t.channels

-- the channels not unused: those that have ended and those that are active
unfoldable pub used_of : Transfer → ℕ
used_of t = ended_of t + sum one_if_active t.channels

-- the bytes left in all payloads
unfoldable pub left_of : Transfer → ℕ
left_of t = sum (λ k. k.left) t.channels

-- ---- what is lent, and the world: all that a call is given and leaves

pub record Lent : Type 0 where
  pub file : List ℕ
  -- the ledger of claimed ranges, and that of doubtful ones
  pub claimed : List ℕ
  pub doubtful : List ℕ

pub record World : Type 0 where
  pub t : Transfer
  pub lent : Lent

abbrev pub world : Transfer → List ℕ → List ℕ → List ℕ → World
world t file claimed doubtful = record { t = t; lent = record { file = file; claimed = claimed; doubtful = doubtful } }

abbrev pub with_transfer : World → Transfer → World
with_transfer w t = record { t = t; lent = w.lent }

-- ---- the verdict

pub data Verdict : Type 0 where
  guess : Verdict
  result : Verdict
  suspect : Verdict
  broken : Verdict

-- a count is known and as many channels have ended
unfoldable pub all_ended : Transfer → Bool
all_ended t = ltb 0 t.count && eqb (ended_of t) t.count

-- the doubtful ledger has a used pair
unfoldable pub is_doubted : World → Bool
is_doubted w = has_pair w.lent.doubtful

unfoldable pub verdict_of : World → Verdict
verdict_of w = cond (ltb 0 w.t.fault) broken (cond (all_ended w.t) (cond (is_doubted w) suspect result) guess)

-- claimed bytes less those left in all payloads
unfoldable pub stored_of : World → ℕ
stored_of w = total (pairs_of w.lent.claimed) - left_of w.t

-- how many bytes the doubtful ranges hold
unfoldable pub doubt_of : World → ℕ
doubt_of w = total (pairs_of w.lent.doubtful)

-- ---- start

unfoldable pub fresh : ℕ → ℕ → Transfer
fresh f r =
    record {
      len = f;
      pairs = r;
      count = 0;
      fault = 0;
      on = 0;
      heads = replicate (held_limit * channel_count) 0;
      channels = replicate channel_count blank;
    }

-- the claimed ledger's length is odd or too great, or the two differ
unfoldable pub lengths_wrong : List ℕ → List ℕ → Bool
lengths_wrong claimed doubtful = length_wrong claimed || not (eqb (length doubtful) (length claimed))

-- refusal 5, or 0
unfoldable pub start_refusal : List ℕ → List ℕ → ℕ
start_refusal claimed doubtful = cond (lengths_wrong claimed doubtful) 5 0

unfoldable pub start_of : ℕ → List ℕ → List ℕ → Transfer
start_of f claimed doubtful = cond (lengths_wrong claimed doubtful) (fresh 0 0) (fresh f (capacity claimed))

-- what start leaves of one of the two ledgers: as it was, or zeros
unfoldable pub start_after : List ℕ → List ℕ → List ℕ → List ℕ
start_after claimed doubtful ledger = cond (lengths_wrong claimed doubtful) ledger (replicate (length ledger) 0)
