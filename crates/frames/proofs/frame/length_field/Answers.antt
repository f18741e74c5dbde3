-- `frame::length_field`.
use mathlib.Core.Path.{◌∙◌}
use Rattle.frames.proofs.Framed.{length_field-read}
use Rattle.frames.proofs.frame.length_field.Goals as goal

pub returns : goal.returns
returns c = c.read.ensures ∙ rw c.min.ensures (length_field-read c.args.bytes.now)
