-- `ranges::read_position`.
use mathlib.Core.Path.{sym, ◌∙◌}
use Rattle.rangelists.proofs.RangeParsing.{position-long, position-read}
use Rattle.rangelists.proofs.ranges.read_position.Goals as goal

pub returns-then-text-gt-DIGIT_LIMIT : goal.returns-then-text-gt-DIGIT_LIMIT
returns-then-text-gt-DIGIT_LIMIT c = sym (position-long c.args.text.now c.if-text-gt-DIGIT_LIMIT.true)

pub returns : goal.returns
returns c = c.read.ensures ∙ sym (position-read c.args.text.now c.if-text-gt-DIGIT_LIMIT.false)
