-- `rule::obeys`: the first pair, then those after it.
use mathlib.Core.Path.{sym, ap, ◌∙◌}
use native.Mathlib.Omega.{arith}
use borrow.Author.Tests.{le-ltb}
use Rattle.ledger.specs.Ledger.{obeys}
use Rattle.ledger.proofs.LedgerPairAt.{sound, sound_after, sound-rest, sound-turned, sound-next}
use Rattle.ledger.proofs.rule.obeys.Goals as goal

pub returns-then-start-end : goal.returns-then-start-end
unfolding obeys sound sound_after
returns-then-start-end c =
    let x = c.in-Some in
    c.obeys_after.ensures ∙ sym (ap (sound 0 c.args.limit) x.ensures.1 ∙ sound-next 0 c.args.limit x.start x.end x.after.now x.ensures.0 (omega arith) c.if-start-end.true)

pub returns-else-start-end : goal.returns-else-start-end
unfolding obeys sound
returns-else-start-end c =
    let x = c.in-Some in
    le-ltb x.start x.end c.if-start-end.false ∙ sym (ap (sound 0 c.args.limit) x.ensures.1 ∙ sound-turned 0 c.args.limit x.start x.end x.after.now x.ensures.0 c.if-start-end.false)

pub returns-in-None : goal.returns-in-None
unfolding obeys sound
returns-in-None c = c.zero_pairs.ensures ∙ sym (sound-rest 0 c.args.limit c.args.ledger.now c.in-None.ensures)
