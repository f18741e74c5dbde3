-- The blocks of a file and the endings, channel by channel (document 02, Item 1). All numbers are whole numbers.
use Rattle.std.specs.Prelude.{ℕ, zero, suc, ◌+◌, ◌*◌, ◌-◌, ◌/◌, ◌%◌, min, Bool, cond, ◌||◌, List, [], ◌∷◌, ◌++◌, ltb, eqb, length, take, drop}
use Rattle.eblock.specs.Header.{header_bytes}
use Rattle.transfer.specs.Block.{Block, block}
use Rattle.transfer.specs.Sending.{SentChannel}

-- a channel count is 1 to 64, a block size 1 to 65,536
abbrev pub channel_limit : ℕ
channel_limit = 64

abbrev pub size_limit : ℕ
size_limit = 65536

unfoldable pub out_of_range : ℕ → ℕ → Bool
out_of_range count size = (eqb count 0 || ltb channel_limit count) || (eqb size 0 || ltb size_limit size)

-- ---- the blocks with bytes

-- how many a file of so many bytes has: its length divided by the size, rounded up
unfoldable pub block_count : ℕ → ℕ → ℕ
block_count len size = len / size + cond (eqb (len % size) 0) 0 1

-- the place of block k's first byte, and the place behind its last: the file's end cuts the last block
abbrev pub block_start : ℕ → ℕ → ℕ
block_start size k = k * size

abbrev pub block_end : ℕ → ℕ → ℕ → ℕ
block_end len size k = min ((k + 1) * size) len

abbrev pub block_length : ℕ → ℕ → ℕ → ℕ
block_length len size k = block_end len size k - block_start size k

-- block k of a file, descriptor 0
unfoldable pub data_block : List ℕ → ℕ → ℕ → Block
data_block file size k =
    block (header_bytes 0 (block_length (length file) size k) (block_start size k)) (take (block_length (length file) size k) (drop (block_start size k) file))

-- ---- the endings

-- a header alone: 72 announces the count on channel 0, any other channel has 8
unfoldable pub ending : ℕ → ℕ → Block
ending count c = block (cond (eqb c 0) (header_bytes 72 0 count) (header_bytes 8 0 0)) []

-- ---- the channels

-- of the blocks below n, those of channel c: the blocks are dealt out to the channels in turn
unfoldable pub data_blocks_on : List ℕ → ℕ → ℕ → ℕ → ℕ → List Block
data_blocks_on file count size c zero = []
data_blocks_on file count size c (suc k) = data_blocks_on file count size c k ++ cond (eqb (k % count) c) (data_block file size k ∷ []) []

-- all that a channel is given, its ending last
unfoldable pub channel_blocks : List ℕ → ℕ → ℕ → ℕ → List Block
channel_blocks file count size c = data_blocks_on file count size c (block_count (length file) size) ++ (ending count c ∷ [])

-- all channels from 0 to below n
unfoldable pub channels_below : List ℕ → ℕ → ℕ → ℕ → List SentChannel
channels_below file count size zero = []
channels_below file count size (suc c) = channels_below file count size c ++ (record { number = c; blocks = channel_blocks file count size c } ∷ [])

abbrev pub sending : List ℕ → ℕ → ℕ → List SentChannel
sending file count size = channels_below file count size count

-- ---- one block of a channel, by its number there

-- how many of B blocks go on channel c: B / count, and one more where c is below the rest
unfoldable pub blocks_on : ℕ → ℕ → ℕ → ℕ
blocks_on B count c = B / count + cond (ltb c (B % count)) 1 0

-- the block that a channel is given after i others
unfoldable pub block_on : List ℕ → ℕ → ℕ → ℕ → ℕ → Block
block_on file count size c i = cond (ltb i (blocks_on (block_count (length file) size) count c)) (data_block file size (i * count + c)) (ending count c)
