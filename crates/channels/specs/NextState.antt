-- What a byte that is taken leads to.
use Rattle.std.specs.Prelude.{Bool, true, false}
use Rattle.transfer.specs.Transfer.{World}
use Rattle.transfer.specs.Receive.{Outcome, continues, stops}

-- a byte was taken, and the call continues or stops
abbrev pub continues_or_stops : Bool → World → Outcome World
continues_or_stops true w = continues w
continues_or_stops false w = stops w
