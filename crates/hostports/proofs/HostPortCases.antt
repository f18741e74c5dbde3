-- The worked cases, by computation.
use mathlib.Core.Path.{refl}
use Rattle.octets.specs.Digits.{from_little_endian, from_big_endian}
use Rattle.octets.specs.Decimal.{decimal_value, no_leading_zero}
use Rattle.texts.specs.Text.{all, leading_count}
use Rattle.hostports.specs.HostPort.{number_at, and_then, more_at, refuse_port_zero, host_port_at, refusal_number}
use Rattle.hostports.specs.HostPortCases.{HostPortCases}

pub host-port-cases : HostPortCases
unfolding from_little_endian from_big_endian decimal_value no_leading_zero all leading_count number_at and_then more_at refuse_port_zero host_port_at refusal_number
host-port-cases = (refl, (refl, (refl, (refl, (refl, (refl, (refl, (refl, (refl, tt)))))))))
