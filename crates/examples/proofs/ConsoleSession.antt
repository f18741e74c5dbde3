-- The session of the console, by computation.
use mathlib.Core.Path.{refl}
use Rattle.octets.specs.Digits.{from_little_endian, from_big_endian}
use Rattle.octets.specs.Decimal.{decimal_value, no_leading_zero}
use Rattle.texts.specs.Text.{all, leading_count}
use Rattle.commands.specs.Line.{equal_texts, verb_number_from, verb_number, ends_in_cr_lf, verb_of, after_verb, has_verb, argument_start, argument_accepted, refusal_of, read_of, argument_of, verb}
use Rattle.commands.specs.VerbNames.{bytes}
use Rattle.hostports.specs.HostPort.{number_at, and_then, more_at, refuse_port_zero, host_port_at}
use Rattle.hostlists.specs.HostList.{prepend, host_port_then, list_at, hosts_of, answer_of, count, host_count}
use Rattle.rangelists.specs.RangeText.{is_position, range_of, prepend_to_first, parts, is_malformed, some_malformed, has_malformed}
use Rattle.console.specs.Rows.{row_of}
use Rattle.console.specs.Sessions.{answers_from}
use Rattle.examples.specs.ConsoleSession.{ConsoleSession}

pub console-session : ConsoleSession
unfolding from_little_endian from_big_endian decimal_value no_leading_zero all leading_count equal_texts verb_number_from verb_number ends_in_cr_lf verb_of after_verb has_verb argument_start argument_accepted refusal_of read_of argument_of verb bytes number_at and_then more_at refuse_port_zero host_port_at prepend host_port_then list_at hosts_of answer_of count host_count is_position range_of prepend_to_first parts is_malformed some_malformed has_malformed row_of answers_from
console-session = record { codes = refl; words = refl }
