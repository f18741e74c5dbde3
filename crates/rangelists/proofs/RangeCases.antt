-- Worked cases of range lists, by computation.
use mathlib.Core.Path.{refl}
use Rattle.octets.specs.Digits.{from_big_endian, from_little_endian}
use Rattle.octets.specs.Decimal.{decimal_value}
use Rattle.texts.specs.Text.{all, leading_count}
use Rattle.ledger.specs.Pairs.{size, join}
use Rattle.ledger.specs.Ledger.{length_wrong, laid_out}
use Rattle.rangelists.specs.RangeText.{is_position, range_of, prepend_to_first, parts, merge_range, merged_from, ranges_of, loaded, entries_after, read_ranges, read_ranges_after}
use Rattle.rangelists.specs.RangeCases.{RangeCases}

pub range-cases : RangeCases
unfolding from_big_endian from_little_endian leading_count all decimal_value size join length_wrong laid_out is_position range_of prepend_to_first parts merge_range merged_from ranges_of loaded entries_after read_ranges read_ranges_after
range-cases = ((refl, refl), ((refl, refl), ((refl, refl), ((refl, refl), ((refl, refl), tt)))))
