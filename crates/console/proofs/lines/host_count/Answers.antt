-- `lines::host_count`.
use mathlib.Core.Path.{◌∙◌}
use native.Mathlib.Omega.{arith}
use Rattle.console.proofs.HostCount.{counted}
use Rattle.console.proofs.lines.host_count.Goals as goal

pub returns : goal.returns
returns c = c.unwrap_or.ensures ∙ counted _ _ c.fill.result (omega arith) c.fill.ensures.0
