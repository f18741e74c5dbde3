-- `nested::reaching`: the pairs passed end below the place.
use mathlib.Core.Path.{sym, ◌∙◌}
use Rattle.rangechecks.proofs.Reaching.{stays}
use Rattle.rangechecks.proofs.NestedWalk.{first_used}
use Rattle.rangechecks.proofs.nested.reaching.Goals as goal

pub returns-then-place-end : goal.returns-then-place-end
returns-then-place-end c =
    let x = c.in-Some in
    let u = first_used c.loop-end.rest.now x.after.now x.field-0-0 x.end x.ensures.0 x.ensures.1 in
    u ∙ sym (stays c.args.place x.field-0-0 x.end _ c.if-place-end.true) ∙ (rw u at c.loop-end.invariant)
