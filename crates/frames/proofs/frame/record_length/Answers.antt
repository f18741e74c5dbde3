-- `frame::record_length`.
use native.Mathlib.Omega.{arith}
use Rattle.octets.proofs.Digits.{below_at}
use Rattle.frames.proofs.Framed.{length_field-lt}
use Rattle.frames.proofs.frame.record_length.Goals as goal

pub overflow_add-result : goal.overflow_add-result
overflow_add-result c =
    let bytes = c.args.bytes.now in
    omega (arith, c.length_field.ensures, length_field-lt bytes (below_at 256 bytes (λ i. omega (arith, c.type_inv.bytes i))))
