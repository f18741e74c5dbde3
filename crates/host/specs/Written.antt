-- What a writer answers, as a host has it.
use Rattle.std.specs.Prelude.{Ok, Err}
use Rattle.answers.specs.Written.{Written as Answer}
use Rattle.host.specs.declared.written.Written.{Written}

abbrev pub written_of : Answer → Written
written_of (Ok n) = record { length = n; refused = 0 }
written_of (Err k) = record { length = 0; refused = k }
