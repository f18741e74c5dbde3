-- What the blocks and the endings are, a field for each thing that document 02's Item 1 asks of them.
use Rattle.std.specs.Prelude.{ℕ, ◌+◌, ◌*◌, ◌-◌, ◌/◌, ◌%◌, ◌≤◌, ◌<◌, min, ◌≡◌, ◌↔◌, ◌≢◌, List, [], ◌∷◌, ◌++◌, length, get_or, take, drop}
use Rattle.octets.specs.Digits.{to_big_endian}
use Rattle.transfer.specs.Block.{Block, size_of}
use Rattle.sender.specs.Blocks.{block_count, data_block, ending, channel_blocks, blocks_on, block_on}

-- a header with these three fields, and these bytes after it
pub record Holds (x : Block) (d second third : ℕ) (bytes : List ℕ) : Type 0 where
  pub head_is : x.head ≡ d ∷ (to_big_endian 256 8 second ++ to_big_endian 256 8 third)
  pub body_is : x.body ≡ bytes

-- the blocks with bytes
pub record BlocksAre (file : List ℕ) (count size : ℕ) : Type 0 where
  pub holds : (k : ℕ)
      → Holds (data_block file size k) 0 (min ((k + 1) * size) (length file) - k * size) (k * size) (take (min ((k + 1) * size) (length file) - k * size) (drop (k * size) file))
  -- as many bytes as its header says
  pub whole : (k : ℕ) → length (data_block file size k).body ≡ min ((k + 1) * size) (length file) - k * size
  pub never_empty : (k : ℕ) → k < block_count (length file) size → 0 < length (data_block file size k).body
  -- there is a block k exactly where the file has a byte at k × size
  pub as_many : (k : ℕ) → (k < block_count (length file) size) ↔ (k * size < length file)
  -- it is the block k / count of channel k mod the count, and no channel has another before its ending
  pub goes_on : (k : ℕ) (d : Block) → k < block_count (length file) size
      → (k % count < count) × (k / count < blocks_on (block_count (length file) size) count (k % count)) × (get_or (channel_blocks file count size (k % count)) (k / count) d ≡ data_block file size k)
  pub no_other : (c i : ℕ) (d : Block) → c < count → i < blocks_on (block_count (length file) size) count c
      → (k : ℕ) × (k < block_count (length file) size) × (k % count ≡ c) × (k / count ≡ i) × (get_or (channel_blocks file count size c) i d ≡ data_block file size k)
  -- what a call gives a channel after i others is the channel's block i
  pub in_order : (c i : ℕ) (d : Block) → c < count → i ≤ blocks_on (block_count (length file) size) count c → block_on file count size c i ≡ get_or (channel_blocks file count size c) i d

-- the endings, one behind the blocks of each channel
pub record EndingsAre (file : List ℕ) (count size : ℕ) : Type 0 where
  pub after_last : (c : ℕ) (d : Block) → c < count
      → (length (channel_blocks file count size c) ≡ blocks_on (block_count (length file) size) count c + 1)
      × (get_or (channel_blocks file count size c) (blocks_on (block_count (length file) size) count c) d ≡ ending count c)
  pub on_first : Holds (ending count 0) 72 0 count []
  pub on_others : (c : ℕ) → c ≢ 0 → Holds (ending count c) 8 0 0 []
  pub zero_length : (c : ℕ) → (size_of (ending count c) ≡ 0) × ((ending count c).body ≡ [])
