-- `nested::all_inside`: the pairs that are left of both ledgers decide.
use mathlib.Core.Path.{refl}
use Rattle.ledger.specs.Ledger.{obeys}
use Rattle.ledger.proofs.LedgerLayout.{rule-ruled}
use Rattle.rangechecks.proofs.NestedWalk.{walk-over, walk-lacks, walk-stops, walk-goes-on}
use Rattle.rangechecks.proofs.nested.all_inside.Goals as goal

pub loop-start-init : goal.loop-start-init
unfolding obeys
loop-start-init c o q = (rule-ruled 0 c.args.inner.now o, rule-ruled 0 c.args.outer.now q, refl)

pub loop-start-preserved : goal.loop-start-preserved
loop-start-preserved c o q =
    let l = c.loop-start in
    let x = c.in-Some in
    let y = c.in-Some-first_pair in
    walk-goes-on l.left.now l.around.now _ (l.invariant o q) x.start x.end x.after.now c.reaching-around.result.now x.ensures.0 x.ensures.1 c.reaching-around.ensures
    y.from y.field-0-1 y.field-0-2.now y.ensures.0 y.ensures.1 c.if-start-from.false

pub returns-in_default-first_pair : goal.returns-in_default-first_pair
returns-in_default-first_pair c o q =
    let l = c.loop-start in
    let x = c.in-Some in
    walk-lacks l.left.now l.around.now _ (l.invariant o q) x.start x.end x.after.now c.reaching-around.result.now x.ensures.0 x.ensures.1 c.reaching-around.ensures
    c.in_default-first_pair.ensures

pub returns-then-start-from : goal.returns-then-start-from
returns-then-start-from c o q =
    let l = c.loop-start in
    let x = c.in-Some in
    let y = c.in-Some-first_pair in
    walk-stops l.left.now l.around.now _ (l.invariant o q) x.start x.end x.after.now c.reaching-around.result.now x.ensures.0 x.ensures.1 c.reaching-around.ensures
    y.from y.field-0-1 y.field-0-2.now y.ensures.0 y.ensures.1 c.if-start-from.true

pub returns : goal.returns
returns c o q = walk-over c.loop-start.left.now c.loop-start.around.now _ (c.loop-start.invariant o q) c.in_default.ensures
