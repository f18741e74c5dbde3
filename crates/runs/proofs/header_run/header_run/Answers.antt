-- `header_run::header_run`: what is held and judged, as the laws of a header's bytes say.
use Rattle.std.proofs.Common.{◌≡◌, ◌+◌, ◌≤◌, length, sym, ap, ◌∙◌, arith, rules}
use Rattle.channels.specs.ChannelState.{write_back}
use Rattle.channels.proofs.WriteBack.{write-back-at, write-back-len, write-back-held-bytes}
use Rattle.runs.proofs.Runs.{held-run-of, write-back-takes}
use Rattle.runs.proofs.header_run.header_run.Goals as goal
use Rattle.runs.proofs.header_run.header_run.Goals.{Else-more-piece}

sixteen : (s : Else-more-piece) → length s.args.x.bytes ≡ 16
sixteen s = search rules

-- all of the piece is held
all_held : (c : Else-more-piece) → let x = c.args in x.x.held + length x.piece.now ≤ 16
all_held c = omega (arith, c.if-more-piece.false, c.room-more.ensures, c.requires)

pub judge_run-requires : goal.judge_run-requires
judge_run-requires c = (c.if-more-piece.true, c.room-more.ensures)

pub returns-then-more-piece : goal.returns-then-more-piece
returns-then-more-piece c =
    let r = c.judge_run.ensures in
    (omega (arith, r.0), omega (arith, r.0, c.if-more-piece.true), r.1)

pub hold_bytes-requires : goal.hold_bytes-requires
hold_bytes-requires c = omega (arith, all_held c)

pub returns-else-more-piece : goal.returns-else-more-piece
returns-else-more-piece c =
    let x = c.args in
    let l = all_held (goal.at.returns-else-more-piece c).Else-more-piece in (
      c.requires,
      omega arith,
      λ t file a k e n.
          let h = ap (λ y. y.held) (write-back-at t x.c a.has x.x) in
          held-run-of (write_back t x.c x.x) x.claimed.now x.doubtful.now x.c x.piece.now a.has.below e (write-back-takes t x.c x.o a x.x k) c.requires (omega (arith, h, l))
          (write_back t x.c c.hold_bytes.result) (ap (write_back t x.c) (c.hold_bytes.ensures l) ∙ write-back-held-bytes t x.c a.has x.x (sixteen (goal.at.returns-else-more-piece c).Else-more-piece) x.piece.now l) file (n ∙ sym (write-back-len t x.c x.x)),
    )
