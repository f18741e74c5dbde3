-- `rule::obeys_after`: the pairs passed obey the rule; those that are left decide, and the last end.
use Prim.Native.Nat.{suc, ◌≤◌}
use mathlib.Core.Path.{sym, ◌∙◌}
use mathlib.Core.Logic.{◌⊎◌, inl, inr}
use borrow.Author.Tests.{le-leb, lt-leb}
use Rattle.ledger.proofs.LedgerPairAt.{sound, sound_after, sound-rest, after-wrong, after_next}
use Rattle.ledger.proofs.rule.obeys_after.Goals as goal
use Rattle.ledger.proofs.rule.obeys_after.Goals.{Joined-then-start-last}

wrong : (c : Joined-then-start-last) → (c.in-Some.start ≤ c.loop-start.last) ⊎ (c.in-Some.end ≤ c.in-Some.start)
wrong c = elim c.then-start-last.either [ inl h ↦ inl h | inr h ↦ inr h.1 ]

pub returns-then-start-last : goal.returns-then-start-last
unfolding sound_after sound
returns-then-start-last c =
    let x = c.in-Some in
    sym (after-wrong c.loop-start.last c.args.limit x.start x.end x.after.now x.ensures.0 (wrong c)) ∙ (rw x.ensures.1 at c.loop-start.invariant)

pub loop-start-preserved : goal.loop-start-preserved
loop-start-preserved c =
    let x = c.in-Some in
    sym (after_next c.loop-start.last c.args.limit x.start x.end x.after.now x.ensures.0 c.if-start-last.false c.if-end-start.false) ∙ (rw x.ensures.1 at c.loop-start.invariant)

pub returns-then-last-limit : goal.returns-then-last-limit
unfolding sound_after sound
returns-then-last-limit c =
    c.zero_pairs.ensures ∙ sym (sound-rest (suc c.loop-start.last) c.args.limit c.loop-start.rest.now c.in_default.ensures)
    ∙ (rw (le-leb c.loop-start.last c.args.limit c.if-last-limit.true) at c.loop-start.invariant)

pub returns-else-last-limit : goal.returns-else-last-limit
unfolding sound_after sound
returns-else-last-limit c = rw (lt-leb c.loop-start.last c.args.limit c.if-last-limit.false) (rw (lt-leb c.loop-start.last c.args.limit c.if-last-limit.false) at c.loop-start.invariant)
