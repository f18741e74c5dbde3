-- An instance: five bytes on two channels, in blocks of two.
use Rattle.std.specs.Prelude.{ℕ, ◌≡◌, Ok, List, [], ◌∷◌, ◌++◌, replicate}
use Rattle.transfer.specs.Block.{block_bytes}
use Rattle.sender.specs.Blocks.{channel_blocks}
use Rattle.sender.specs.Sender.{sender_of, begin_of, next_call, next_of, next_after, sender_after}

abbrev pub example_file : List ℕ
example_file = 11 ∷ 12 ∷ 13 ∷ 14 ∷ 15 ∷ []

pub record Example : Type 0 where
  -- blocks 0 and 2, and the ending with the count
  pub channel_0 :
      block_bytes (channel_blocks example_file 2 2 0)
      ≡ (0 ∷ 0 ∷ 0 ∷ 0 ∷ 0 ∷ 0 ∷ 0 ∷ 0 ∷ 2 ∷ 0 ∷ 0 ∷ 0 ∷ 0 ∷ 0 ∷ 0 ∷ 0 ∷ 0 ∷ 11 ∷ 12 ∷ [])
      ++ ((0 ∷ 0 ∷ 0 ∷ 0 ∷ 0 ∷ 0 ∷ 0 ∷ 0 ∷ 1 ∷ 0 ∷ 0 ∷ 0 ∷ 0 ∷ 0 ∷ 0 ∷ 0 ∷ 4 ∷ 15 ∷ [])
      ++ (72 ∷ 0 ∷ 0 ∷ 0 ∷ 0 ∷ 0 ∷ 0 ∷ 0 ∷ 0 ∷ 0 ∷ 0 ∷ 0 ∷ 0 ∷ 0 ∷ 0 ∷ 0 ∷ 2 ∷ []))
  -- block 1, and an ending
  pub channel_1 :
      block_bytes (channel_blocks example_file 2 2 1)
      ≡ (0 ∷ 0 ∷ 0 ∷ 0 ∷ 0 ∷ 0 ∷ 0 ∷ 0 ∷ 2 ∷ 0 ∷ 0 ∷ 0 ∷ 0 ∷ 0 ∷ 0 ∷ 0 ∷ 2 ∷ 13 ∷ 14 ∷ [])
      ++ (8 ∷ 0 ∷ 0 ∷ 0 ∷ 0 ∷ 0 ∷ 0 ∷ 0 ∷ 0 ∷ 0 ∷ 0 ∷ 0 ∷ 0 ∷ 0 ∷ 0 ∷ 0 ∷ 0 ∷ [])
  -- the first call on channel 1, lent 20 bytes
  pub first_call_is :
      let call = next_call 1 2 2 example_file (replicate 20 238) in
      (next_of (begin_of 5 2 2) call ≡ Ok 19)
      × (next_after (begin_of 5 2 2) call ≡ 0 ∷ 0 ∷ 0 ∷ 0 ∷ 0 ∷ 0 ∷ 0 ∷ 0 ∷ 2 ∷ 0 ∷ 0 ∷ 0 ∷ 0 ∷ 0 ∷ 0 ∷ 0 ∷ 2 ∷ 13 ∷ 14 ∷ 238 ∷ [])
      × (sender_after (begin_of 5 2 2) call ≡ sender_of 5 2 2 (0 ∷ 1 ∷ replicate 62 0))
