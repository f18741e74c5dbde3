-- `apply::faulty`.
use mathlib.Core.Path.{◌≡◌, ap, ◌∙◌}
use borrow.Author.Rules.{rules}
use lib.ListN.{length}
use Rattle.answers.specs.Refusal.{number}
use Rattle.channels.specs.ChannelState.{write_back}
use Rattle.channels.proofs.WriteBack.{write-back-fault}
use Rattle.channels.proofs.NextState.{leaves-fault}
use Rattle.headers.proofs.apply.faulty.Goals as goal

pub returns : goal.returns
returns c t file claimed doubtful a =
    let x = c.args in
    let k = number x.fault in
    let sixteen : length x.x.bytes ≡ 16 = search rules in
    leaves-fault (write_back t x.c x.x) (write_back t x.c c.cleared_with_fault.result) x.c file claimed doubtful k (ap (write_back t x.c) c.cleared_with_fault.ensures ∙ write-back-fault t x.c a x.x sixteen k)
