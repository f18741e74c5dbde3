-- How many host-ports a text has, by the answer of a list that is filled.
use Prim.Native.Nat.{ℕ, ◌≤◌}
use mathlib.Core.Path.{◌≡◌, sym}
use mathlib.Core.List.{List}
use lib.ListN.{length}
use Rattle.std.specs.Prelude.{Result, Ok, Err}
use Rattle.std.specs.Result.{result_unwrap_or}
use Rattle.answers.specs.Refusal.{number, numbered}
use Rattle.answers.specs.declared.refusal.Refusal.{Refusal}
use Rattle.hostlists.specs.HostList.{fill_of, host_count}
use Rattle.hostlists.proofs.HostCounts.{host-counts}

pub counted : (text list : List ℕ) (r : Result ℕ Refusal) → 64 ≤ length list → numbered r ≡ fill_of text list → result_unwrap_or r 0 ≡ host_count text
counted text list (Ok n) h e = sym (host-counts.filled text list n h (sym e))
counted text list (Err k) h e = sym (host-counts.refused text list (number k) h (sym e))
