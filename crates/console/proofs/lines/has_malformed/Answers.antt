-- `lines::has_malformed`.
use mathlib.Core.Path.{refl, ◌∙◌}
use native.Mathlib.Omega.{arith}
use Rattle.console.proofs.RestRanges.{refused-some}
use Rattle.console.proofs.lines.has_malformed.Goals as goal

pub returns : goal.returns
returns c = c.is_err.ensures.value ∙ refused-some _ _ c.requires refl (omega arith) (omega arith) c.read.result c.read.ensures.0
