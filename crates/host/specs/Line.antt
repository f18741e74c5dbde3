-- What a command line says, as a host has it: the places of the argument in the line.
use Rattle.std.specs.Prelude.{ℕ, Result, Ok, Err}
use Rattle.commands.specs.Line.{Said, Says}
use Rattle.host.specs.declared.line.Command.{Command}

abbrev pub command_of : Result Said ℕ → Command
command_of (Ok (Says v from to)) = record { from = from; to = to; verb = v; refused = 0 }
command_of (Err k) = record { from = 0; to = 0; verb = 0; refused = k }
