-- `line::Line::count`.
use native.Mathlib.Omega.{arith}
use mathlib.Core.Path.{ap}
use lib.ListN.{length}
use Rattle.screen.specs.Screen.{unknown_word}
use Rattle.screen.proofs.Screen.{count-unknown, count-known}
use Rattle.screen.proofs.line.Line.count.Goals as goal

pub word-requires : goal.word-requires
unfolding unknown_word
word-requires c = omega (arith, ap length (count-unknown c.args.n c.if-n-eq0.true))

pub returns-then-n-eq0 : goal.returns-then-n-eq0
unfolding unknown_word
returns-then-n-eq0 c = rw (count-unknown c.args.n c.if-n-eq0.true) c.word.ensures

pub number-requires : goal.number-requires
number-requires c = omega (arith, ap length (count-known c.args.n (omega arith)))

pub returns-else-n-eq0 : goal.returns-else-n-eq0
returns-else-n-eq0 c = rw (count-known c.args.n (omega arith)) c.number.ensures
