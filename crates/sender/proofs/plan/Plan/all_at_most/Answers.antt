-- `plan::Plan::all_at_most`.
use mathlib.Core.Path.{◌∙◌}
use mathlib.Core.Bool.{cond}
use lib.Dec.{ltb}
use borrow.Author.Tests.{tests}
use Rattle.std.proofs.Common.{rules, ℕ, ◌+◌, ◌≤◌, ◌<◌}
use Rattle.std.proofs.lemmas.Iterator.{YieldsList-from_slice, cases_from_all}
use Rattle.std.proofs.lemmas.Iterator.Consumers.{YieldsList-from_enumerate}
use Rattle.sender.proofs.AtMost.{by-share, from-all}
use Rattle.sender.proofs.plan.Plan.all_at_most.Goals as goal

pub returns : goal.returns
returns c =
    let x = c.args in
    let s = c.share-share.result in
    let most = λ (c : ℕ). cond (ltb c s.count) (s.each + cond (ltb c s.more) 1 0 + 1) 0 in
    let e = c.share-share.ensures in
    from-all most x.given.now c.all.result (
    cases_from_all _ _ _ (λ (p : ℕ × ℕ). p.1 ≤ most p.0) (λ (p : ℕ × ℕ). most p.0 < p.1) c.all.ensures.ran
    (YieldsList-from_enumerate (YieldsList-from_slice x.given.now (cc)) (cc))
    (λ x q k. search (rules, tests)) (λ x q k. search (rules, tests)))
    ∙ by-share x.self.len x.self.count x.self.size s.each s.more s.count x.given.now e.0 e.1 e.2
