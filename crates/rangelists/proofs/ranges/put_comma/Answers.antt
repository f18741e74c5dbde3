-- `ranges::put_comma`.
use mathlib.Core.Path.{ap, ◌∙◌}
use native.Mathlib.Omega.{arith}
use lib.ListN.{length}
use Rattle.rangelists.proofs.RangeText.{comma-none, comma-one}
use Rattle.rangelists.proofs.ranges.put_comma.Goals as goal
use Rattle.rangelists.proofs.ranges.put_comma.Goals.{then-n-ne0, else-n-ne0}

pub bounds-out-n : goal.bounds-out-n
bounds-out-n c = omega (arith, ap length (comma-one c.args.n (omega arith)))

pub returns : goal.returns
returns c =
    elim c.if-n-ne0.branch [
      | then-n-ne0 w ↦ (omega arith, w.out-is ∙ rw (comma-one c.args.n (omega arith)))
      | else-n-ne0 w ↦ (omega arith, w.out-is ∙ rw (w.if-n-ne0.false, comma-none))
    ]
