-- `Example` holds: it is computed.
use mathlib.Core.Path.{refl}
use Rattle.octets.specs.Digits.{to_little_endian, to_big_endian}
use Rattle.answers.specs.Written.{first_refusal, room_refusal, written_by, written_after}
use Rattle.eblock.specs.Header.{header_bytes}
use Rattle.transfer.specs.Block.{block_bytes}
use Rattle.sender.specs.Blocks.{out_of_range, block_count, data_block, ending, data_blocks_on, channel_blocks, blocks_on, block_on}
use Rattle.sender.specs.Sender.{begun, begin_of, most_on, all_at_most, calls_can_give, bytes_of, next_bytes, numbers_wrong, is_mismatched, ending_sent, call_refusal, next_refusal, next_of, next_after, moved_on, sender_after}
use Rattle.sender.specs.Example.{Example}

pub example : Example
unfolding channel_blocks data_blocks_on block_count data_block ending header_bytes to_big_endian to_little_endian block_bytes next_of next_after sender_after next_refusal call_refusal is_mismatched numbers_wrong out_of_range calls_can_give all_at_most most_on blocks_on ending_sent next_bytes bytes_of block_on begin_of begun moved_on first_refusal room_refusal written_by written_after
example = record { channel_0 = refl; channel_1 = refl; first_call_is = (refl, refl, refl) }
