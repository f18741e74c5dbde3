-- `list::store`: the host-ports stored, and what comes after them, are what the text says.
use Prim.Native.Nat.{◌-◌, ◌≤◌}
use mathlib.Core.Path.{◌≡◌}
use lib.ListN.{length, take}
use Rattle.hostlists.specs.HostList.{host_limit, list_at, hosts_of}
use Rattle.hostlists.proofs.HostList.{following}
use Rattle.hostlists.proofs.list.store.Given as goal

abbrev pub invariant-loop-n : goal.invariant-loop-n
invariant-loop-n l =
    (l.n ≤ host_limit) × (host_limit ≤ length l.list) × (following (take l.n l.list) (list_at (host_limit - l.n) l.text l.at) ≡ hosts_of l.text)
