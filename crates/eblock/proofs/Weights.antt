-- What each byte of a header's two numbers weighs, computed.
use native.Mathlib.Omega.{arith}
use Rattle.octets.specs.Digits.{from_little_endian, from_big_endian}
use Rattle.eblock.specs.Header.{second_of, third_of}
use Rattle.eblock.specs.Weights.{Weights}

pub weights : Weights
unfolding second_of third_of from_big_endian from_little_endian
weights = record { second = λ s a b c d e f g h r. omega arith; third = λ s t u v w x y z k a b c d e f g h r. omega arith }
