-- `frame::kind`.
use mathlib.Core.Path.{◌∙◌}
use Rattle.frames.proofs.Framed.{kind_of-read}
use Rattle.frames.proofs.frame.kind.Goals as goal

pub returns : goal.returns
returns c = c.read.ensures ∙ rw (c.min-to.ensures, c.min-from.ensures) (kind_of-read c.args.bytes.now)
