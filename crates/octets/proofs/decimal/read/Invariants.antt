-- `decimal::read`: the bytes passed are digits, and n is what they say.
use mathlib.Core.Path.{◌≡◌}
use mathlib.Core.Bool.{true}
use lib.ListN.{take}
use Rattle.octets.specs.Decimal.{decimal_value}
use Rattle.texts.specs.Text.{is_digit, all}
use Rattle.octets.proofs.decimal.read.Given as goal

abbrev pub invariant-loop-b : goal.invariant-loop-b
invariant-loop-b l = (all is_digit (take l.b-index l.text) ≡ true) × (l.n ≡ decimal_value (take l.b-index l.text))
