-- `payload_run::payload_run`: one store and the channel's next state, as the law of a payload's bytes says.
use Rattle.std.proofs.Common.{◌≡◌, ◌+◌, ◌-◌, ◌%◌, ◌<◌, ◌≤◌, eqb, length, ap, ◌∙◌, arith}
use Rattle.transfer.specs.Transfer.{world}
use Rattle.transfer.specs.Receive.{expect_payload}
use Rattle.copies.proofs.CopiedBytes.{stored-is-written}
use Rattle.channels.specs.ChannelState.{channel_of, write_back}
use Rattle.channels.proofs.WriteBack.{write-back-at}
use Rattle.runs.proofs.Runs.{stage-of-channel, storing-below, rest-inside, stored-run-of}
use Rattle.runs.proofs.payload_run.payload_run.Goals as goal
use Rattle.runs.proofs.payload_run.payload_run.Goals.{After-slice_known-1}

file-fits : (c : After-slice_known-1) → length c.args.file.now ≤ 18446744073709551615
file-fits c = omega arith

pub returns : goal.returns
returns c =
    let x = c.args in
    let m = c.min-n.result in (
      c.min-n.ensures,
      λ t d claimed doubtful a e.
          let w = world (write_back t d x.x) x.file.now claimed doubtful in
          let k = write-back-at t d a x.x in
          let b : x.x.state < 4 = storing-below (channel_of x.x) (stage-of-channel t d a x.x x.file.now claimed doubtful e) c.requires.2 in
          let r = rest-inside w d a.below e (omega (arith, c.requires.1, ap (λ z. z.state) k)) (omega (arith, b, ap (λ z. z.state) k)) in
          let i : x.x.next + x.x.left ≤ length x.file.now = omega (arith, r, ap (λ z. z.next) k, ap (λ z. z.left) k) in
          let q : (x.x.next + m) % 18446744073709551616 ≡ x.x.next + m = omega (arith, c.min-n.ensures, i, file-fits (goal.at.returns c).After-slice_known-1) in
          stored-run-of (write_back t d x.x) x.file.now _ d (channel_of x.x) k x.piece.now m a.below c.requires.0 c.requires.1 b i c.min-n.ensures
          (c.store.ensures ∙ stored-is-written x.x.next m x.piece.now x.file.now (omega (arith, c.min-n.ensures)) (omega (arith, c.min-n.ensures, i)))
          (write_back t d c.expect_payload-next.result.channel) c.expect_payload-next.result.continues
          (λ f l u. c.expect_payload-next.ensures t d f l u a ∙ ap (λ z. expect_payload (world (write_back t d x.x) f l u) d z (x.x.left - m) (eqb x.x.state 3)) q) claimed doubtful e,
    )
