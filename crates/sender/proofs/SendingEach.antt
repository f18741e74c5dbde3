-- What holds of each block k and of each ending, and of two lists joined where it holds of both, holds of all blocks of a channel and of a sending.
use Prim.Native.Nat.{ℕ, zero, suc, ◌%◌, ◌<◌}
use mathlib.Core.Path.{◌≡◌, refl}
use mathlib.Core.Bool.{Bool, true, false, cond}
use mathlib.Core.List.{List, [], ◌∷◌, ◌++◌, append_assoc}
use native.Mathlib.Omega.{arith}
use lib.Dec.{eqb}
use lib.ListN.{length}
use Rattle.transfer.specs.Block.{Block}
use Rattle.transfer.specs.Sending.{SentChannel, sent_blocks}
use Rattle.sender.specs.Blocks.{block_count, data_block, ending, data_blocks_on, channel_blocks, channels_below}

-- the blocks of some channels and of others
sent_blocks-append : (a b : List SentChannel) → sent_blocks (a ++ b) ≡ sent_blocks a ++ sent_blocks b
unfolding sent_blocks
sent_blocks-append [] b = refl
sent_blocks-append (x ∷ a) b = rw (sent_blocks-append a b, append_assoc x.blocks (sent_blocks a) (sent_blocks b))

module _ (P : List Block → Type 0) (none : P []) (joined : (a b : List Block) → P a → P b → P (a ++ b)) (file : List ℕ) (count size : ℕ) where
  -- of the blocks with bytes of channel c
  pub each_on : (c n : ℕ) → ((k : ℕ) → k < n → P (data_block file size k ∷ [])) → P (data_blocks_on file count size c n)
  unfolding data_blocks_on
  each_on c zero h = none
  each_on c (suc k) h =
      joined (data_blocks_on file count size c k) (cond (eqb (k % count) c) (data_block file size k ∷ []) []) (each_on c k (λ j l. h j (omega arith))) (here (eqb (k % count) c))
    where
      here : (b : Bool) → P (cond b (data_block file size k ∷ []) [])
      here true = h k (omega arith)
      here false = none

  module _ (each : (k : ℕ) → k < block_count (length file) size → P (data_block file size k ∷ [])) (last : (c : ℕ) → P (ending count c ∷ [])) where
    -- of all its blocks
    pub each-channel : (c : ℕ) → P (channel_blocks file count size c)
    unfolding channel_blocks
    each-channel c = joined (data_blocks_on file count size c (block_count (length file) size)) (ending count c ∷ []) (each_on c (block_count (length file) size) each) (last c)

    -- of all blocks of the channels below n
    pub each-sent : (n : ℕ) → P (sent_blocks (channels_below file count size n))
    unfolding sent_blocks channels_below
    each-sent zero = none
    each-sent (suc c) =
        rw (sent_blocks-append (channels_below file count size c) (record { number = c; blocks = channel_blocks file count size c } ∷ []))
        (joined (sent_blocks (channels_below file count size c)) (channel_blocks file count size c ++ []) (each-sent c) (joined (channel_blocks file count size c) [] (each-channel c) none))
