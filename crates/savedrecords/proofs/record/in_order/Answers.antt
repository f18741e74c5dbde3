-- `record::in_order`: the pairs that are left, after the one before them, are in order as all of them are.
use Prim.Native.Nat.{◌/◌}
use mathlib.Core.Path.{◌≡◌, sym, ◌∙◌}
use mathlib.Core.Bool.{◌&&◌}
use native.Mathlib.Omega.{arith}
use lib.ListN.{length}
use Rattle.ledger.specs.Pairs.{obey_from}
use Rattle.savedrecords.specs.Record.{pairs_in}
use Rattle.savedrecords.proofs.RecordPairs.{lowest_after, obey_first}
use Rattle.savedrecords.proofs.record.in_order.Goals as goal
use Rattle.savedrecords.proofs.record.in_order.Goals.{After-may_follow}

-- the pair that is looked at, and those after it
turn : (c : After-may_follow) → let x = c.args in
    let next = c.first-next.result in
    let rest = c.next.new.self.rest.now in
    obey_from 0 (pairs_in x.second (length x.pairs.now / 16) x.pairs.now) ≡ (c.may_follow.result && obey_from (lowest_after next.start next.length) (pairs_in x.second (length rest / 16) rest))
turn c =
    let x = c.args in
    let before = c.loop-bytes.before in
    let next = c.first-next.result in
    let steps = c.in-Some.ensures.steps.1 in
    let first = obey_first x.second c.loop-bytes.bytes-iterator.rest.now c.in-Some.bytes.now c.next.new.self.rest.now steps.0 (steps.1 ∙ c.loop-bytes.invariant.0) in
    sym c.loop-bytes.invariant.1 ∙ first before.start before.length next.start next.length c.first-next.ensures.0 c.first-next.ensures.1 ∙ rw c.may_follow.ensures

pub returns-then-not-may_follow : goal.returns-then-not-may_follow
returns-then-not-may_follow c = sym (turn (goal.at.returns-then-not-may_follow c).After-may_follow ∙ rw c.if-not-may_follow.true)

pub loop-bytes-preserved : goal.loop-bytes-preserved
loop-bytes-preserved c =
    let e = c.if-not-may_follow.false in
    (c.in-Some.ensures.steps.0 ∙ c.loop-bytes.invariant.0, sym (turn (goal.at.loop-bytes-preserved c).After-may_follow ∙ rw e))

pub returns : goal.returns
unfolding obey_from pairs_in
returns c =
    let z : length c.loop-bytes.bytes-iterator.rest.now / 16 ≡ 0 = omega (arith, c.in-None.ensures.steps.1.0) in
    rw z at c.loop-bytes.invariant.1
