-- `claim::starting_by`.
use mathlib.Core.Path.{sym, ◌∙◌}
use native.Mathlib.Omega.{arith}
use Rattle.claims.specs.Neighbours.{starts_by}
use Rattle.claims.proofs.JudgedByPlace.{starts-inside, starting-is}
use Rattle.claims.proofs.claim.starting_by.Goals as goal

pub returns-then-pair_starts_by : goal.returns-then-pair_starts_by
unfolding starts_by
returns-then-pair_starts_by c =
    let x = c.args in
    let at = c.find-found.result.at in
    let q = sym c.pair_starts_by.ensures ∙ c.if-pair_starts_by.true in
    (omega (arith, starts-inside x.end at x.ledger.now q), λ o. rw q at (starting-is x.end at x.ledger.now o (c.find-found.ensures.by_rule o)))

pub returns-else-pair_starts_by : goal.returns-else-pair_starts_by
unfolding starts_by
returns-else-pair_starts_by c =
    let x = c.args in
    let q = sym c.pair_starts_by.ensures ∙ c.if-pair_starts_by.false in
    (c.find-found.ensures.inside, λ o. omega (arith, rw q at (starting-is x.end c.find-found.result.at x.ledger.now o (c.find-found.ensures.by_rule o))))
