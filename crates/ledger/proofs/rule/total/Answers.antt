-- `rule::total`: what is counted and what the pairs that are left hold is all, up to the largest number.
use Prim.Native.Nat.{ℕ, ◌+◌, ◌-◌, ◌<◌, min}
use mathlib.Core.Path.{◌≡◌, ◌∙◌}
use mathlib.Core.List.{List, ◌∷◌}
use native.Mathlib.Omega.{arith}
use borrow.Author.Tests.{ne_eqb}
use Rattle.ledger.specs.Pairs.{total}
use Rattle.ledger.specs.Ledger.{pairs_of}
use Rattle.ledger.proofs.LedgerPairAt.{first_unused}
use Rattle.ledger.proofs.rule.total.Goals as goal

one-more : (m n : ℕ) (s r : List ℕ) (a b k : ℕ) → 0 < b → s ≡ a ∷ b ∷ r → k ≡ min m (n + (b - a)) → min m (k + total (pairs_of r)) ≡ min m (n + total (pairs_of s))
unfolding total pairs_of
one-more m n s r a b k h e d = rw (e, ne_eqb b 0 (λ z. omega arith)) (omega arith)

pub loop-start-preserved : goal.loop-start-preserved
loop-start-preserved c =
    let x = c.in-Some in
    let l = c.loop-start in
    let d : c.saturating_add-total.result ≡ min 18446744073709551615 (l.total + (x.end - x.start)) = c.saturating_add-total.ensures ∙ rw c.saturating_sub.ensures in
    (omega arith, one-more 18446744073709551615 l.total l.rest.now x.after.now x.start x.end c.saturating_add-total.result x.ensures.0 x.ensures.1 d ∙ l.invariant.1)

pub returns : goal.returns
unfolding total
returns c =
    let e : total (pairs_of c.loop-start.rest.now) ≡ 0 = rw (first_unused c.loop-start.rest.now c.in_default.ensures) in
    omega (arith, e)
