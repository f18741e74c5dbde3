-- `ranges::after_comma`.
use mathlib.Core.Path.{ap}
use native.Mathlib.Omega.{arith}
use lib.ListN.{length}
use Rattle.rangelists.proofs.RangeText.{comma-none, comma-one}
use Rattle.rangelists.proofs.ranges.after_comma.Goals as goal

pub returns-then-n-eq0 : goal.returns-then-n-eq0
returns-then-n-eq0 c = rw (c.if-n-eq0.true, comma-none)

pub returns-else-n-eq0 : goal.returns-else-n-eq0
returns-else-n-eq0 c = omega (arith, ap length (comma-one c.args.n (omega arith)))
