-- `host_port::host_port_at`: the numbers read, and those that are to come after them, make the host-port.
use Prim.Native.Nat.{◌-◌, ◌^◌, ◌≤◌, ◌<◌}
use mathlib.Core.Path.{◌≡◌}
use Rattle.hostports.specs.HostPort.{more_at, refuse_port_zero, host_port_at}
use Rattle.hostports.proofs.host_port.host_port_at.Given as goal

abbrev pub invariant-loop : goal.invariant-loop
invariant-loop l = (l.counter ≤ 6) × (l.read.value < 256 ^ l.counter) × (refuse_port_zero (more_at (6 - l.counter) l.text l.read.value l.read.next) ≡ host_port_at l.text l.at)
