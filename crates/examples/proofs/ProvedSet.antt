-- The proved set, by computation.
use mathlib.Core.Path.{refl}
use Rattle.octets.specs.Digits.{from_little_endian, from_big_endian, to_little_endian, to_big_endian}
use Rattle.octets.specs.Decimal.{decimal_value}
use Rattle.texts.specs.Text.{all, leading_count}
use Rattle.eblock.specs.Descriptor.{has, fault_of}
use Rattle.eblock.specs.Header.{second_of, third_of, header_bytes, refusal_of, read_of, second_field, write_of, write_after}
use Rattle.answers.specs.Written.{written_bytes, first_refusal, room_refusal, written_by, written_after}
use Rattle.ledger.specs.Pairs.{size, total, join, overlaps, inside, all_inside, ends_at_most}
use Rattle.ledger.specs.Ledger.{length_wrong, all_zero, obeys_from, obeys, pairs_of, has_pair, laid_out}
use Rattle.rangelists.specs.RangeText.{is_position, range_of, prepend_to_first, parts, merge_range, merged_from, ranges_of, loaded, entries_after, read_ranges, read_ranges_after}
use Rattle.transfer.specs.Channel.{state_code, held_length, next_place, bytes_left, held_bytes, encode_state, decode_state, state_at, put_state, put_fault, put_count}
use Rattle.transfer.specs.Transfer.{sum, ended_of, used_of, left_of, all_ended, is_doubted, verdict_of, stored_of, doubt_of, fresh, lengths_wrong, start_of, start_after}
use Rattle.transfer.specs.Header.{payload_length, request_of, lacks_pairs, claim_fault}
use Rattle.transfer.specs.Fit.{empty_fits, header_fits, payload_fits, channel_fits, channels_fit, apart, apart_from, rests_apart, count_fits, fault_fits, claimed_fits, doubtful_fits, fits_without_file, fits}
use Rattle.transfer.specs.Receive.{expect_payload, stop_with_fault, with_range, claim_range, apply_request, apply_header, take_header_byte, store_payload_byte, take_byte_in, take_byte, take_bytes, refusal_of as refusal_in, receive_of}
use Rattle.transfer.specs.Calls.{call_of, fold_calls, started_world}
use Rattle.examples.specs.ProvedSet.{ProvedSet}

pub proved-set : ProvedSet
unfolding from_little_endian from_big_endian to_little_endian to_big_endian leading_count all decimal_value has fault_of second_of third_of header_bytes refusal_of read_of second_field write_of write_after first_refusal room_refusal written_by written_after written_bytes size total join overlaps inside all_inside ends_at_most length_wrong all_zero obeys_from obeys pairs_of has_pair laid_out is_position range_of prepend_to_first parts merge_range merged_from ranges_of loaded entries_after read_ranges read_ranges_after state_code held_length next_place bytes_left held_bytes encode_state decode_state state_at put_state put_fault put_count sum ended_of used_of left_of all_ended is_doubted verdict_of stored_of doubt_of fresh lengths_wrong start_of start_after payload_length request_of lacks_pairs claim_fault empty_fits header_fits payload_fits channel_fits channels_fit apart apart_from rests_apart count_fits fault_fits claimed_fits doubtful_fits fits_without_file fits expect_payload stop_with_fault with_range claim_range apply_request apply_header take_header_byte store_payload_byte take_byte_in take_byte take_bytes refusal_in receive_of call_of fold_calls started_world
proved-set =
    ((refl, refl, refl), ((refl, refl, refl), ((refl, refl, refl, refl), ((refl, refl, refl, refl), ((refl, refl, refl, refl), ((refl, refl, refl, refl), ((refl, refl, refl), ((refl, refl, refl), ((refl, refl, refl), ((refl, refl, refl), ((refl, refl), ((refl, refl), ((refl, refl), tt)))))))))))))
