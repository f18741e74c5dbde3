-- `Receiver::receive`: refused by its number, or the bytes of its piece taken.
use mathlib.Core.Path.{sym, ◌∙◌}
use Rattle.answers.specs.Refusal.{number}
use Rattle.answers.proofs.Numbers.{above_0}
use Rattle.transfer.specs.Transfer.{World, world}
use Rattle.receiver.proofs.Refusal.{is-refused, is-taken, not-refused}
use Rattle.receiver.proofs.receive.Receiver.receive.Goals as goal
use Rattle.receiver.proofs.receive.Receiver.receive.Goals.{After-accept}

abbrev given : After-accept → World
given a = let x = a.args in world x.self.transfer x.file.now x.claimed.now x.doubtful.now

pub taken-verdict-requires : goal.taken-verdict-requires
taken-verdict-requires c =
    let x = c.args in
    let m = not-refused (given (goal.at.taken-verdict-requires c).After-accept) x.channel x.piece.now (sym c.in-Ok.ensures.number) in
    (m.1, m.0, c.in-Ok.ensures.counts.0, c.in-Ok.ensures.counts.1)

pub returns-in-Ok : goal.returns-in-Ok
returns-in-Ok c =
    let x = c.args in
    (c.taken-verdict.ensures.0 ∙ is-taken (given (goal.at.returns-in-Ok c).After-accept) x.channel x.piece.now (sym c.in-Ok.ensures.number), c.taken-verdict.ensures.1)

pub returns-in-Err : goal.returns-in-Err
returns-in-Err c =
    let x = c.args in (
      is-refused (given (goal.at.returns-in-Err c).After-accept) x.channel x.piece.now (number c.in-Err.refusal) c.in-Err.ensures.number (above_0 c.in-Err.refusal),
      c.of_transfer.ensures x.file.now x.claimed.now,
    )
