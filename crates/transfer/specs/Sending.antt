-- Well-formed sendings and their arrivals (document 01, "Well-formed sending").
use Rattle.std.specs.Prelude.{ℕ, ◌+◌, ◌≤◌, ◌<◌, ◌≡◌, true, false, cond, List, [], ◌∷◌, ◌++◌, eqb, length}
use Rattle.ledger.specs.Pairs.{Pairs, size, in_range, contains}
use Rattle.eblock.specs.Descriptor.{fault_of}
use Rattle.eblock.specs.Header.{descriptor_of}
use Rattle.transfer.specs.Transfer.{sum}
use Rattle.transfer.specs.Header.{ends_channel}
use Rattle.transfer.specs.Calls.{Call, receive}
use Rattle.transfer.specs.Block.{Block, place_of, size_of, block_bytes, counts_in}

-- what is sent on one channel: its number, and its blocks
pub record SentChannel : Type 0 where
  pub number : ℕ
  pub blocks : List Block

-- ---- well-formed

-- a block as it should be, for a file of F bytes
pub record WellFormedBlock (F : ℕ) (x : Block) : Type 0 where
  pub seventeen : length x.head ≡ 17
  pub accepted : fault_of (descriptor_of x.head) ≡ 0
  -- its whole payload
  pub whole : length x.body ≡ size_of x
  -- one that is not empty lies inside the file
  pub inside : 0 < size_of x → place_of x + size_of x ≤ F

abbrev pub WellFormedBlocks : ℕ → List Block → Type 0
WellFormedBlocks F [] = Unit {0}
WellFormedBlocks F (x ∷ xs) = WellFormedBlock F x × WellFormedBlocks F xs

-- the last block has bit 8, and no other
abbrev pub EndsAtLast : List Block → Type 0
EndsAtLast [] = ⊥
EndsAtLast (x ∷ []) = ends_channel x.head ≡ true
EndsAtLast (x ∷ y ∷ xs) = (ends_channel x.head ≡ false) × EndsAtLast (y ∷ xs)

pub record WellFormedChannel (F : ℕ) (x : SentChannel) : Type 0 where
  pub channel : x.number < 64
  pub each : WellFormedBlocks F x.blocks
  pub ends : EndsAtLast x.blocks

abbrev pub WellFormedChannels : ℕ → List SentChannel → Type 0
WellFormedChannels F [] = Unit {0}
WellFormedChannels F (x ∷ s) = WellFormedChannel F x × WellFormedChannels F s

-- the blocks of all channels
unfoldable pub sent_blocks : List SentChannel → List Block
sent_blocks [] = []
sent_blocks (x ∷ s) = x.blocks ++ sent_blocks s

-- how many are sent on the channel c; how many payloads hold the place p; how many payloads are not empty
abbrev pub times_sent_on : ℕ → List SentChannel → ℕ
times_sent_on c s = sum (λ (x : SentChannel). cond (eqb x.number c) 1 0) s

abbrev pub payloads_holding : ℕ → List Block → ℕ
payloads_holding p xs = sum (λ (x : Block). in_range (place_of x) (place_of x + size_of x) p) xs

abbrev pub non_empty_payloads : List Block → ℕ
non_empty_payloads xs = sum (λ (x : Block). cond (eqb (size_of x) 0) 0 1) xs

-- for a file of F bytes and ledgers of R pairs, of which the claimed one holds these ranges before
pub record WellFormed (F R : ℕ) (before : Pairs) (s : List SentChannel) : Type 0 where
  -- n channels, 1 to 64, each once
  pub some : 0 < length s
  pub few : length s ≤ 64
  pub once : (c : ℕ) → times_sent_on c s ≤ 1
  -- on each a list of blocks with accepted descriptors, the last with bit 8 and no other; every payload that is not empty inside F
  pub each : WellFormedChannels F s
  -- one EODC block in all, saying n
  pub one_count : counts_in (sent_blocks s) ≡ length s ∷ []
  -- no two payloads share a byte, nor one with what is held before
  pub apart : (p : ℕ) → payloads_holding p (sent_blocks s) + contains p before ≤ 1
  -- pairs for the payloads that are not empty
  pub room : non_empty_payloads (sent_blocks s) + size before ≤ R

-- ---- arrivals

-- what is sent on the channel c
unfoldable pub sent_on : ℕ → List SentChannel → List ℕ
sent_on c [] = []
sent_on c (x ∷ s) = cond (eqb x.number c) (block_bytes x.blocks ++ sent_on c s) (sent_on c s)

-- the pieces for the channel c, joined
unfoldable pub pieces_on : ℕ → List Call → List ℕ
pieces_on c [] = []
pieces_on c (receive d piece ∷ ks) = cond (eqb d c) (piece ++ pieces_on c ks) (pieces_on c ks)

-- lists of calls whose pieces, joined channel by channel, are the bytes of the sending
abbrev pub Arrival : List SentChannel → List Call → Type 0
Arrival s ks = (c : ℕ) → pieces_on c ks ≡ sent_on c s

-- the number of bytes in all pieces
unfoldable pub total_piece_bytes : List Call → ℕ
total_piece_bytes [] = 0
total_piece_bytes (receive c piece ∷ ks) = length piece + total_piece_bytes ks
