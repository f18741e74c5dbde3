-- `next_state::expect_payload`.
use mathlib.Core.Path.{◌≡◌, ap, ◌∙◌}
use native.Mathlib.Omega.{arith}
use borrow.Author.Rules.{rules}
use lib.ListN.{length}
use Rattle.channels.specs.ChannelState.{write_back, with_state}
use Rattle.channels.proofs.WriteBack.{write-back-header, write-back-payload, write-back-ended}
use Rattle.channels.proofs.NextState.{ends, opens-header, opens-payload}
use Rattle.channels.proofs.next_state.expect_payload.Goals as goal
use Rattle.channels.proofs.next_state.expect_payload.Goals.{Start}

sixteen : (s : Start) → length s.args.x.bytes ≡ 16
sixteen s = search rules

pub returns-then-left-gt0 : goal.returns-then-left-gt0
returns-then-left-gt0 c t d file claimed doubtful a =
    let x = c.args in
    opens-payload (write_back t d x.x) (write_back t d c.with_state.result) d file claimed doubtful x.next x.left x.last c.if-left-gt0.true
    (ap (write_back t d) c.with_state.ensures ∙ ap (λ n. write_back t d (with_state x.x n x.next x.left)) c.payload_number.ensures ∙ write-back-payload t d a x.x (sixteen (goal.at.returns-then-left-gt0 c).Start) x.next x.left x.last)

pub returns-then-last : goal.returns-then-last
returns-then-last c t d file claimed doubtful a =
    let x = c.args in
    ends (write_back t d x.x) (write_back t d c.with_state-then-last.result) d file claimed doubtful x.next x.left x.last (omega (arith, c.if-left-gt0.false)) c.if-last.true
    (ap (write_back t d) c.with_state-then-last.ensures ∙ write-back-ended t d a x.x (sixteen (goal.at.returns-then-last c).Start))

pub returns-else-last : goal.returns-else-last
returns-else-last c t d file claimed doubtful a =
    let x = c.args in
    opens-header (write_back t d x.x) (write_back t d c.with_state-else-last.result) d file claimed doubtful x.next x.left x.last (omega (arith, c.if-left-gt0.false)) c.if-last.false
    (ap (write_back t d) c.with_state-else-last.ensures ∙ write-back-header t d a x.x (sixteen (goal.at.returns-else-last c).Start))
