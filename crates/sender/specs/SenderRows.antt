-- What a beginning and a call for the next block answer and leave, row by row (document 02, Item 1). The premises carry the order of the numbers.
use Rattle.std.specs.Prelude.{ℕ, ◌+◌, ◌≤◌, ◌<◌, ◌≡◌, ◌⊎◌, ◌≢◌, true, false, ◌++◌, length, set, replicate}
use Rattle.answers.specs.Written.{Refuses, Writes}
use Rattle.transfer.specs.Block.{Block}
use Rattle.sender.specs.declared.state.Sender.{Sender}
use Rattle.sender.specs.Blocks.{block_count, blocks_on, block_on}
use Rattle.sender.specs.Sender.{sender_of, given_on, begin_refusal, begin_of, calls_can_give, NextCall, next_of, next_after, sender_after}

-- ---- the beginning

abbrev pub InRange : ℕ → ℕ → Type 0
InRange count size = ((1 ≤ count) × (count ≤ 64)) × ((1 ≤ size) × (size ≤ 65536))

abbrev pub Outside : ℕ → ℕ → Type 0
Outside count size = ((count ≡ 0) ⊎ (64 < count)) ⊎ ((size ≡ 0) ⊎ (65536 < size))

-- refused by this number, and lent bytes and sender are unchanged
pub record NotWritten (s : Sender) (k : NextCall) (number : ℕ) : Type 0 where
  pub answer : Refuses (next_of s k) (next_after s k) k.out number
  pub sender : sender_after s k ≡ s

-- accepted or refused, and what it gives
pub record RefusedBeginning : Type 0 where
  pub refused : (len count size : ℕ) → Outside count size → (begin_refusal count size ≡ 71) × (begin_of len count size ≡ sender_of 0 0 0 (replicate 64 0))
  pub accepted : (len count size : ℕ) → InRange count size → (begin_refusal count size ≡ 0) × (begin_of len count size ≡ sender_of len count size (replicate 64 0))
  -- there is no third case
  pub either : (count size : ℕ) → Outside count size ⊎ InRange count size
  -- every later call on it is refused
  pub stays_refused : (len count size : ℕ) → Outside count size → (k : NextCall) → NotWritten (begin_of len count size) k 71

-- ---- the next block

-- the call matches the sender: nothing of 71 holds
pub record Matches (s : Sender) (k : NextCall) : Type 0 where
  pub range : InRange k.count k.size
  pub count : k.count ≡ s.count
  pub size : k.size ≡ s.size
  pub file : length k.file ≡ s.len
  pub given : calls_can_give s ≡ true

-- the channel's blocks with bytes, and the block that it is given next
abbrev pub blocks_for : NextCall → ℕ
blocks_for k = blocks_on (block_count (length k.file) k.size) k.count k.channel

abbrev pub next_block : Sender → NextCall → Block
next_block s k = block_on k.file k.count k.size k.channel (given_on s k.channel)

pub record Rows : Type 0 where
  -- 71, by any one of its five causes
  pub row_71_range : (s : Sender) (k : NextCall) → Outside k.count k.size → NotWritten s k 71
  pub row_71_count : (s : Sender) (k : NextCall) → k.count ≢ s.count → NotWritten s k 71
  pub row_71_size : (s : Sender) (k : NextCall) → k.size ≢ s.size → NotWritten s k 71
  pub row_71_file : (s : Sender) (k : NextCall) → length k.file ≢ s.len → NotWritten s k 71
  pub row_71_given : (s : Sender) (k : NextCall) → calls_can_give s ≡ false → NotWritten s k 71
  -- no other call is 71
  pub or_matches : (s : Sender) (k : NextCall) → NotWritten s k 71 ⊎ Matches s k
  -- 73: there is no such channel
  pub row_73 : (s : Sender) (k : NextCall) → Matches s k → k.count ≤ k.channel → NotWritten s k 73
  -- 74: its ending is sent; no channel has been given more
  pub row_74 : (s : Sender) (k : NextCall) → Matches s k → k.channel < k.count → given_on s k.channel ≡ blocks_for k + 1 → NotWritten s k 74
  pub no_more : (s : Sender) (k : NextCall) → Matches s k → k.channel < k.count → given_on s k.channel ≤ blocks_for k + 1
  -- 55: fewer bytes are lent than the whole next block has, the header's 17 and its own
  pub row_55 : (s : Sender) (k : NextCall) → Matches s k → k.channel < k.count → given_on s k.channel ≤ blocks_for k → length k.out < 17 + length (next_block s k).body → NotWritten s k 55
  -- otherwise the block is written, the lent bytes after it are unchanged, and the channel has been given one block more
  pub row_written : (s : Sender) (k : NextCall) → Matches s k → k.channel < k.count → given_on s k.channel ≤ blocks_for k → 17 + length (next_block s k).body ≤ length k.out
      → Writes (next_of s k) (next_after s k) k.out ((next_block s k).head ++ (next_block s k).body) (17 + length (next_block s k).body)
      × (sender_after s k ≡ sender_of s.len s.count s.size (set s.given k.channel (given_on s k.channel + 1)))
