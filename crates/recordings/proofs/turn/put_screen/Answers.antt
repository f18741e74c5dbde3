-- `turn::put_screen`.
use mathlib.Core.Path.{◌∙◌}
use Prim.Native.Nat.{◌<◌}
use borrow.Author.Rules.{rules}
use Rattle.answers.specs.Refusal.{numbered}
use Rattle.recordings.proofs.Turns.{screen-written, written-or}
use Rattle.recordings.proofs.turn.put_screen.Goals as goal

pub returns : goal.returns
returns c =
    let x = c.args in
    let l : x.receiver.transfer.len < 18446744073709551616 = search rules in
    let w = screen-written x.receiver.transfer x.claimed.now x.doubtful.now x.out.now c.write.new.out (numbered c.write.result) l c.requires.0 c.requires.1 c.write.ensures in
    (w.0, (c.unwrap_or.ensures ∙ written-or c.write.result ∙ w.1.0, w.1.1))
