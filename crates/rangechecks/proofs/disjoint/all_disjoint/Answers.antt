-- `disjoint::all_disjoint`: the ranges that are left decide.
use mathlib.Core.Path.{sym, ap, ◌∙◌}
use mathlib.Core.Bool.{◌&&◌}
use Rattle.rangechecks.proofs.Ranges.{any_two, after, first-and-rest, none-left}
use Rattle.rangechecks.proofs.disjoint.all_disjoint.Goals as goal

pub loop-rest-preserved : goal.loop-rest-preserved
loop-rest-preserved c =
    let s = c.loop-rest.rest.now in
    ap (λ b. b && any_two (after s)) (c.if-not-is_apart_from.ensures) ∙ sym (first-and-rest _ s c.in-len1-up.len_at_least) ∙ c.loop-rest.invariant

pub returns-then-not-is_apart_from : goal.returns-then-not-is_apart_from
returns-then-not-is_apart_from c =
    let s = c.loop-rest.rest.now in
    ap (λ b. b && any_two (after s)) (c.if-not-is_apart_from.ensures) ∙ sym (first-and-rest _ s c.in-len1-up.len_at_least) ∙ c.loop-rest.invariant

pub returns : goal.returns
returns c = none-left c.loop-rest.rest.now c.in_default.len_below ∙ c.loop-rest.invariant
