-- A sender, how it is begun, and what a call for the next block of a channel answers and leaves (document 02, Item 1).
use Rattle.std.specs.Prelude.{ℕ, suc, ◌+◌, Bool, true, cond, ◌&&◌, ◌||◌, not, List, [], ◌∷◌, ◌++◌, leb, ltb, eqb, length, get_or, set, replicate}
use Rattle.answers.specs.Written.{Written, first_refusal, room_refusal, written_by, written_after}
use Rattle.transfer.specs.Block.{Block}
use Rattle.sender.specs.declared.state.Sender.{Sender}
use Rattle.sender.specs.Blocks.{channel_limit, out_of_range, block_count, blocks_on, block_on}

-- for a file of so many bytes, with the number of blocks that each channel has been given, the ending counted as one
abbrev pub sender_of : ℕ → ℕ → ℕ → List ℕ → Sender
sender_of len count size given = record { len = len; count = count; size = size; given = given }

abbrev pub given_on : Sender → ℕ → ℕ
given_on s c = get_or s.given c 0

-- ---- the beginning

-- nothing given on any channel
unfoldable pub begun : ℕ → ℕ → ℕ → Sender
begun len count size = sender_of len count size (replicate channel_limit 0)

-- 71, or 0
unfoldable pub begin_refusal : ℕ → ℕ → ℕ
begin_refusal count size = cond (out_of_range count size) 71 0

-- where it is refused the sender is all 0
unfoldable pub begin_of : ℕ → ℕ → ℕ → Sender
begin_of len count size = cond (out_of_range count size) (begun 0 0 0) (begun len count size)

-- ---- a sender that calls can give

-- the most blocks that a channel is given: its blocks and its ending, and none from the count on
unfoldable pub most_on : ℕ → ℕ → ℕ → ℕ → ℕ
most_on len count size c = cond (ltb c count) (blocks_on (block_count len size) count c + 1) 0

-- each number, the first being that of channel c, is at most what that channel can have
unfoldable pub all_at_most : (ℕ → ℕ) → ℕ → List ℕ → Bool
all_at_most most c [] = true
all_at_most most c (n ∷ ns) = leb n (most c) && all_at_most most (suc c) ns

unfoldable pub calls_can_give : Sender → Bool
calls_can_give s = not (out_of_range s.count s.size) && all_at_most (most_on s.len s.count s.size) 0 s.given

-- ---- the next block

-- a call names a channel, and lends the file and the bytes to be written
pub record NextCall : Type 0 where
  pub channel : ℕ
  pub count : ℕ
  pub size : ℕ
  pub file : List ℕ
  pub out : List ℕ

abbrev pub next_call : ℕ → ℕ → ℕ → List ℕ → List ℕ → NextCall
next_call channel count size file out = record { channel = channel; count = count; size = size; file = file; out = out }

-- the bytes of the next block of the channel
unfoldable pub bytes_of : Block → List ℕ
bytes_of x = x.head ++ x.body

unfoldable pub next_bytes : Sender → NextCall → List ℕ
next_bytes s k = bytes_of (block_on k.file k.count k.size k.channel (given_on s k.channel))

-- numbers out of range, or that are not the sender's
unfoldable pub numbers_wrong : Sender → ℕ → ℕ → ℕ → Bool
numbers_wrong s count size len = out_of_range count size || (not (eqb count s.count) || (not (eqb size s.size) || not (eqb len s.len)))

-- what 71 asks: numbers out of range, numbers or a file length that are not the sender's, or a sender that the test above refuses
unfoldable pub is_mismatched : Sender → NextCall → Bool
is_mismatched s k = numbers_wrong s k.count k.size (length k.file) || not (calls_can_give s)

-- the channel's ending is sent
unfoldable pub ending_sent : Sender → ℕ → Bool
ending_sent s c = leb (most_on s.len s.count s.size c) (given_on s c)

-- 71, 73, 74 in this order, or 0
unfoldable pub call_refusal : Sender → NextCall → ℕ
call_refusal s k = cond (is_mismatched s k) 71 (cond (leb k.count k.channel) 73 (cond (ending_sent s k.channel) 74 0))

-- then 55 where the lent bytes are too few for the whole block
unfoldable pub next_refusal : Sender → NextCall → ℕ
next_refusal s k = first_refusal (call_refusal s k) (room_refusal (length (next_bytes s k)) k.out)

-- the answer, the lent bytes and the sender afterwards
unfoldable pub next_of : Sender → NextCall → Written
next_of s k = written_by (next_refusal s k) (length (next_bytes s k))

unfoldable pub next_after : Sender → NextCall → List ℕ
next_after s k = written_after (next_refusal s k) (next_bytes s k) k.out

-- with one block more on the channel
unfoldable pub moved_on : Sender → ℕ → Sender
moved_on s c = sender_of s.len s.count s.size (set s.given c (given_on s c + 1))

unfoldable pub sender_after : Sender → NextCall → Sender
sender_after s k = cond (ltb 0 (next_refusal s k)) s (moved_on s k.channel)
