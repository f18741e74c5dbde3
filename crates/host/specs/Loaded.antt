-- What the reader of a saved ledger of kind 2 answers, as a host has it.
use Rattle.std.specs.Prelude.{ℕ, Result, Ok, Err}
use Rattle.host.specs.declared.ledgers.LoadedFor.{LoadedFor}

abbrev pub loaded_for_of : Result ℕ ℕ → LoadedFor
loaded_for_of (Ok f) = record { length = f; refused = 0 }
loaded_for_of (Err k) = record { length = 0; refused = k }
