-- `first::look`.
use Rattle.recordings.specs.Kept.{replay_state}
use Rattle.recordings.proofs.Steps.{not-whole, long-stops}
use mathlib.Core.Path.{refl, sym, ◌∙◌}
use Rattle.recordings.proofs.first.look.Goals as goal

pub returns-in-Nothing : goal.returns-in-Nothing
returns-in-Nothing c = (not-whole c.args.bytes.now (rw c.first_record.ensures at c.in-Nothing.is), refl, refl)

pub returns-in-TooLong : goal.returns-in-TooLong
returns-in-TooLong c =
    let x = c.args in
    let d = replay_state x.p x.file.now x.claimed.now x.doubtful.now in
    (refl, c.put_record.ensures, long-stops d x.bytes.now (sym c.first_record.ensures ∙ c.in-TooLong.is))
