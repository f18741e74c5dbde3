-- Worked cases of recordings, by computation.
use mathlib.Core.Path.{refl}
use Rattle.octets.specs.Decimal.{digit_count_by, digit_count, in_digits, decimal}
use Rattle.octets.specs.Digits.{from_little_endian, from_big_endian, to_little_endian, to_big_endian}
use Rattle.eblock.specs.Descriptor.{has, fault_of}
use Rattle.eblock.specs.Header.{second_of, third_of, header_bytes}
use Rattle.ledger.specs.Pairs.{size, total, join, overlaps, inside, all_inside, ends_at_most}
use Rattle.ledger.specs.Ledger.{length_wrong, all_zero, obeys_from, obeys, pairs_of, has_pair, laid_out}
use Rattle.transfer.specs.Channel.{state_code, held_length, next_place, bytes_left, held_bytes, encode_state, decode_state, state_at, put_state, put_fault, put_count}
use Rattle.transfer.specs.Transfer.{sum, ended_of, used_of, left_of, all_ended, is_doubted, verdict_of, stored_of, doubt_of, fresh, lengths_wrong, start_of, start_after}
use Rattle.transfer.specs.Header.{payload_length, request_of as header_request, lacks_pairs, claim_fault}
use Rattle.transfer.specs.Fit.{empty_fits, header_fits, payload_fits, channel_fits, channels_fit, apart, apart_from, rests_apart, count_fits, fault_fits, claimed_fits, doubtful_fits, fits_without_file, fits}
use Rattle.transfer.specs.Receive.{expect_payload, stop_with_fault, with_range, claim_range, apply_request, apply_header, take_header_byte, store_payload_byte, take_byte_in, take_byte, take_bytes, refusal_of, receive_of}
use Rattle.transfer.specs.Calls.{started_world}
use Rattle.screen.specs.Screen.{broken_word, on_word, guess_word, result_word, suspect_word, ended_word, of_word, unknown_word, bytes_word, doubtful_word, line_feed, count_text, broken_text, ended_text, front_text, bytes_text, tail_text, line_text, line_of}
use Rattle.frames.specs.Frame.{framed, length_field, kind_of, record_length, first_record}
use Rattle.nights.specs.Request.{file_length_in, pairs_in, start_in, piece_in, request_of}
use Rattle.nights.specs.Lines.{number_line, left_line, piece_text}
use Rattle.nights.specs.Reading.{joined, read_by, read, end_text}
use Rattle.nights.specs.Night.{started_night, leads, answer_piece, turn_of, so_far, printed}
use Rattle.nights.specs.ReplayCases.{ReplayCases}

pub replay-cases : ReplayCases
unfolding from_little_endian from_big_endian to_little_endian to_big_endian has fault_of second_of third_of header_bytes size total join overlaps inside all_inside ends_at_most length_wrong all_zero obeys_from obeys pairs_of has_pair laid_out state_code held_length next_place bytes_left held_bytes encode_state decode_state state_at put_state put_fault put_count sum ended_of used_of left_of all_ended is_doubted verdict_of stored_of doubt_of fresh lengths_wrong start_of start_after payload_length header_request lacks_pairs claim_fault empty_fits header_fits payload_fits channel_fits channels_fit apart apart_from rests_apart count_fits fault_fits claimed_fits doubtful_fits fits_without_file fits expect_payload stop_with_fault with_range claim_range apply_request apply_header take_header_byte store_payload_byte take_byte_in take_byte take_bytes refusal_of receive_of started_world digit_count_by digit_count in_digits decimal broken_word on_word guess_word result_word suspect_word ended_word of_word unknown_word bytes_word doubtful_word line_feed count_text broken_text ended_text front_text bytes_text tail_text line_text line_of framed length_field kind_of record_length first_record file_length_in pairs_in start_in piece_in request_of number_line left_line piece_text read_by read end_text started_night leads answer_piece turn_of so_far printed joined
replay-cases = (refl, (refl, (refl, (refl, (refl, (refl, (refl, (refl, (refl, (refl, (refl, (refl, (refl, (refl, (refl, (refl, (refl, (refl, (refl, (refl, (refl, (refl, (refl, (refl, (refl, (refl, (refl, (refl, (refl, (refl, (refl, (refl, tt))))))))))))))))))))))))))))))))
