-- `held::Held::zero_from`.
use mathlib.Core.Path.{sym, ◌∙◌}
use Rattle.ledger.proofs.Zeros.{zeros-drop}
use Rattle.channelchecks.proofs.held.Held.zero_from.Goals as goal

pub returns-then-self : goal.returns-then-self
returns-then-self c =
    let x = c.args in
    let e = c.if-self.true in
    e ∙ sym (zeros-drop x.from x.self.now.bytes.now (x.self.now.known e))
