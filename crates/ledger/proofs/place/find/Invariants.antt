-- `place::find`: the place lies from low up to high, and the looks made and those that do for the open pairs are within the bound.
use Rattle.ledger.specs.Place.{still_open}
use Rattle.ledger.proofs.PlaceSearch.{Sought}
use Rattle.ledger.proofs.place.find.Given as goal

abbrev pub invariant-loop-state : goal.invariant-loop-state
invariant-loop-state l = Sought l.start l.ledger l.state

abbrev pub decreases-loop-state : goal.decreases-loop-state
decreases-loop-state l = still_open l.state
