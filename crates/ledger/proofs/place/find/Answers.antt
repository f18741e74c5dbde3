-- `place::find`: the place lies from low up to high, and the looks made and those that do for the open pairs are within the bound.
use mathlib.Core.Path.{ap}
use native.Mathlib.Omega.{arith}
use Rattle.ledger.specs.Place.{still_open, none_open}
use Rattle.ledger.proofs.PlaceSearch.{sought-first, sought-on, halves}
use Rattle.ledger.proofs.place.find.Goals as goal

pub loop-state-init : goal.loop-state-init
loop-state-init c =
    let x = c.args in
    sought-first x.start x.ledger.now

pub look-state-requires : goal.look-state-requires
unfolding still_open
look-state-requires c =
    let v = c.loop-state.invariant in
    (omega arith, v.1, v.2)

pub loop-state-smaller : goal.loop-state-smaller
unfolding still_open
loop-state-smaller c =
    let x = c.args in
    omega (arith, ap still_open c.look-state.ensures, halves x.start x.ledger.now c.loop-state.state)

pub loop-state-preserved : goal.loop-state-preserved
loop-state-preserved c =
    let x = c.args in
    rw c.look-state.ensures (sought-on x.start x.ledger.now c.loop-state.state c.loop-state.invariant (omega arith))

pub returns : goal.returns
returns c =
    let v = c.loop-state.invariant in
    record { by_rule = λ o. omega (arith, v.4 o); by_looks = v.5 _ (none_open c.loop-state.state (omega arith)); looks_bound = omega (arith, v.3); inside = omega arith }
