-- `next::is_mismatched`.
use mathlib.Core.Path.{◌≡◌, sym, ap, ◌∙◌}
use mathlib.Core.Bool.{false, not}
use mathlib.Core.List.{[]}
use native.Mathlib.Omega.{arith}
use lib.ListN.{replicate, length-replicate}
use Rattle.sender.specs.Sender.{next_call, numbers_wrong}
use Rattle.sender.proofs.Judged.{wrong-numbers, right-range, by-given}
use Rattle.sender.proofs.next.is_mismatched.Goals as goal

pub returns-then-numbers_wrong : goal.returns-then-numbers_wrong
returns-then-numbers_wrong c =
    let x = c.args in
    λ n file out l.
    c.if-numbers_wrong.true ∙ sym (wrong-numbers x.s.now (next_call n x.count x.size file out) (rw l (sym c.numbers_wrong.ensures ∙ c.if-numbers_wrong.true)))

pub invariant_of-all_at_most : goal.invariant_of-all_at_most
invariant_of-all_at_most c =
    let x = c.args in
    let e : numbers_wrong x.s.now x.count x.size x.len ≡ false = sym c.numbers_wrong.ensures ∙ c.if-numbers_wrong.false in
    let r = right-range x.s.now (next_call 0 x.count x.size (replicate x.len 0) []) (rw length-replicate e) in
    record { fits = omega (arith, r) }

pub returns-else-numbers_wrong : goal.returns-else-numbers_wrong
returns-else-numbers_wrong c =
    let x = c.args in
    λ n file out l.
    ap not (c.all_at_most.ensures) ∙ sym (rw l at (by-given x.s.now (next_call n x.count x.size file out) (rw l (sym c.numbers_wrong.ensures ∙ c.if-numbers_wrong.false))))
