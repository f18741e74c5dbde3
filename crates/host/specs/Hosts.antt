-- What host-ports are found, as a host has it.
use Rattle.std.specs.Prelude.{ℕ, Option, Some, None, Result, Ok, Err}
use Rattle.hostports.specs.declared.host_port.Parsed.{Parsed}
use Rattle.host.specs.declared.hosts.HostPortCount.{HostPortCount}
use Rattle.host.specs.declared.hosts.HostPortAt.{HostPortAt}

-- of a whole text
abbrev pub host_port_count_of : Result ℕ ℕ → HostPortCount
host_port_count_of (Ok n) = record { count = n; refused = 0 }
host_port_count_of (Err k) = record { count = 0; refused = k }

-- at one place
abbrev pub host_port_at_of : Option Parsed → HostPortAt
host_port_at_of (Some p) = record { value = p.value; next = p.next; found = 1 }
host_port_at_of None = record { value = 0; next = 0; found = 0 }
