-- What every list of calls on a sender sends, from an accepted beginning on (document 02, Item 1).
use Rattle.std.specs.Prelude.{ℕ, ◌≤◌, ◌<◌, ◌≡◌, ◌↔◌, ◌⊎◌, ◌≢◌, true, List, [], ◌∷◌, ◌++◌, length, get_or}
use Rattle.ledger.specs.Pairs.{none}
use Rattle.answers.specs.Refusal.{number_in}
use Rattle.transfer.specs.Transfer.{World, result, verdict_of}
use Rattle.transfer.specs.Calls.{Call, after}
use Rattle.transfer.specs.Block.{block_bytes, doubtful_in}
use Rattle.transfer.specs.AfterList.{StartedWith, HasByte, PayloadsInFile}
use Rattle.transfer.specs.Sending.{sent_blocks, payloads_holding, WellFormed, sent_on, pieces_on}
use Rattle.transfer.specs.Arrivals.{Arrives}
use Rattle.sender.specs.declared.state.Sender.{Sender}
use Rattle.sender.specs.Blocks.{block_count, channel_blocks, sending}
use Rattle.sender.specs.Sender.{begin_refusal, begin_of, calls_can_give, NextCall, next_call, next_of}
use Rattle.sender.specs.Calls.{after_calls, written_on, EachLends}

-- ---- the senders that calls give

-- some list of calls from an accepted beginning with that file length leaves the sender
abbrev pub LeftByCalls : Sender → Type 0
LeftByCalls s = (count : ℕ) × (size : ℕ) × (ks : List NextCall) × (begin_refusal count size ≡ 0) × (after_calls (begin_of s.len count size) ks ≡ s)

pub record GivenByCalls : Type 0 where
  -- the test holds exactly of those that are left by some list
  pub test_is : (s : Sender) → length s.given ≡ 64 → (calls_can_give s ≡ true) ↔ LeftByCalls s
  -- each list leaves 64 numbers, and the length, count and size that were begun with
  pub numbers : (len count size : ℕ) → begin_refusal count size ≡ 0 → (ks : List NextCall) → let s = after_calls (begin_of len count size) ks in (length s.given ≡ 64) × (s.len ≡ len) × (s.count ≡ count) × (s.size ≡ size)
  -- for each file of that length, some list that lends it unchanged does
  pub by_one_file : (s : Sender) → length s.given ≡ 64 → calls_can_give s ≡ true → (file : List ℕ) → length file ≡ s.len
      → (ks : List NextCall) × EachLends file ks × (after_calls (begin_of s.len s.count s.size) ks ≡ s)

-- ---- what is sent

-- the number that a call for the next block of the channel is answered with, count and size as begun
abbrev pub number_for : Sender → List ℕ → ℕ → List ℕ → ℕ
number_for s file c out = number_in (next_of s (next_call c s.count s.size file out))

-- the first is the front of the second
abbrev pub Front : List ℕ → List ℕ → Type 0
Front bs all = (rest : List ℕ) × (bs ++ rest ≡ all)

-- what a list wrote on channel c is the front of the channel's bytes, all of them exactly where 74 is the next answer
pub record SendsOn (file : List ℕ) (count size : ℕ) (ks : List NextCall) (c : ℕ) : Type 0 where
  pub front : Front (written_on c (begin_of (length file) count size) ks) (block_bytes (channel_blocks file count size c))
  pub all_where_74 : (out : List ℕ) → number_for (after_calls (begin_of (length file) count size) ks) file c out ≡ 74
      → written_on c (begin_of (length file) count size) ks ≡ block_bytes (channel_blocks file count size c)
  pub all_gives_74 : written_on c (begin_of (length file) count size) ks ≡ block_bytes (channel_blocks file count size c)
      → (out : List ℕ) → number_for (after_calls (begin_of (length file) count size) ks) file c out ≡ 74

-- every channel's ending is sent: some call for its next block is answered 74, and so is every one, whatever bytes are lent to be written
abbrev pub EndingsSent : Sender → List ℕ → Type 0
EndingsSent s file = (c : ℕ) → c < s.count → (out : List ℕ) × (number_for s file c out ≡ 74)

pub record Sends : Type 0 where
  -- a call that lends the file may be in the list, and one that lends a file of another length, whatever else they are handed
  pub any_call : (file : List ℕ) (k : NextCall) (ks : List NextCall) → (k.file ≡ file) ⊎ (length k.file ≢ length file) → EachLends file ks → EachLends file (k ∷ ks)
  pub below_count : (file : List ℕ) (count size : ℕ) → begin_refusal count size ≡ 0 → (ks : List NextCall) → EachLends file ks → (c : ℕ) → c < count → SendsOn file count size ks c
  -- on any other channel nothing is written
  pub no_other : (len count size : ℕ) → begin_refusal count size ≡ 0 → (ks : List NextCall) → (c : ℕ) → count ≤ c → written_on c (begin_of len count size) ks ≡ []
  -- what all channels send up to their endings is the sending
  pub all_sent : (file : List ℕ) (count size : ℕ) → begin_refusal count size ≡ 0 → (ks : List NextCall) → EachLends file ks → EndingsSent (after_calls (begin_of (length file) count size) ks) file
      → (c : ℕ) → written_on c (begin_of (length file) count size) ks ≡ sent_on c (sending file count size)

-- from every sender that calls give some list sends all endings, for each file of its length
pub record CanEnd : Type 0 where
  pub ends : (s : Sender) → length s.given ≡ 64 → calls_can_give s ≡ true → (file : List ℕ) → length file ≡ s.len → (ks : List NextCall) × EachLends file ks × EndingsSent (after_calls s ks) file

-- ---- what the sending is

-- well-formed, for a receiver whose file has that length and whose ledgers have a pair for each block
pub record WellFormedSending : Type 0 where
  pub is : (file : List ℕ) (count size : ℕ) → begin_refusal count size ≡ 0 → block_count (length file) size ≤ 4096 → (R : ℕ) → block_count (length file) size ≤ R → WellFormed (length file) R none (sending file count size)
  -- no block has bit 32, so that it never ends with SUSPECT (document 02, Item 3)
  pub none_suspected : (file : List ℕ) (count size : ℕ) → doubtful_in (sent_blocks (sending file count size)) ≡ []

-- each byte of the file is sent, and once
pub record ExactlyOnce (file : List ℕ) (count size : ℕ) : Type 0 where
  -- each place of the file is in one block
  pub once : (p : ℕ) → p < length file → payloads_holding p (sent_blocks (sending file count size)) ≡ 1
  -- with its byte
  pub with_byte : (p : ℕ) → p < length file → HasByte p (get_or file p 0) (sent_blocks (sending file count size))
  -- each block has as many bytes as its header says, those of the file at the place that it names
  pub payloads : PayloadsInFile file (sent_blocks (sending file count size))
  -- and no block names another place, or has another byte
  pub no_other : (p : ℕ) → length file ≤ p → payloads_holding p (sent_blocks (sending file count size)) ≡ 0
  pub only_its_byte : (p v : ℕ) → HasByte p v (sent_blocks (sending file count size)) → (p < length file) × (v ≡ get_or file p 0)

-- these receive calls end with RESULT and the sender's bytes
pub record EndsEqual (file : List ℕ) (count size : ℕ) (w : World) (start : List ℕ) (rs : List Call) : Type 0 where
  pub result_is : verdict_of (after w rs) ≡ result
  pub file_is : (after w rs).lent.file ≡ file
  pub arrives : Arrives w start (sending file count size) rs

pub record EqualFile : Type 0 where
  -- every arrival of what was written up to the endings, over every starting file, from every accepted start with that F and R
  pub ends : (file : List ℕ) (count size : ℕ) → begin_refusal count size ≡ 0 → (ks : List NextCall) → EachLends file ks → EndingsSent (after_calls (begin_of (length file) count size) ks) file
      → (w : World) (start : List ℕ) (R : ℕ) → StartedWith w start R none → length start ≡ length file → block_count (length file) size ≤ R
      → (rs : List Call) → ((c : ℕ) → pieces_on c rs ≡ written_on c (begin_of (length file) count size) ks)
      → EndsEqual file count size w start rs
  -- with at most 4,096 blocks there is such a start, and there are such lists
  pub room : (file : List ℕ) (size : ℕ) → block_count (length file) size ≤ 4096 → (start : List ℕ) → (w : World) × (R : ℕ) × StartedWith w start R none × (block_count (length file) size ≤ R)
  pub arrival : (file : List ℕ) (count size : ℕ) → begin_refusal count size ≡ 0 → (ks : List NextCall) × (rs : List Call) × EachLends file ks × EndingsSent (after_calls (begin_of (length file) count size) ks) file
      × ((c : ℕ) → pieces_on c rs ≡ written_on c (begin_of (length file) count size) ks)
