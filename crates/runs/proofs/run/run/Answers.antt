-- `run::run`: one of four runs, by the channel's state.
use Rattle.std.proofs.Common.{◌≡◌, eqb, sym, ap, ◌∙◌, true≢false, arith, eqb-true}
use mathlib.Core.Bool.{and-eq-true_iff}
use Rattle.transfer.specs.Channel.{put_fault}
use Rattle.verdicts.specs.Verdict.{count_reached}
use Rattle.channels.specs.ChannelState.{write_back, channel_of}
use Rattle.channels.proofs.WriteBack.{write-back-at, write-back-len, write-back-count-reached}
use Rattle.runs.proofs.Runs.{stage-of-channel, ended-above, takes-header}
use Rattle.runs.proofs.CallRuns.{fits-parts, count-reached-run-of, ended-run-of}
use Rattle.runs.proofs.run.run.Goals as goal

pub returns-then-gives_19 : goal.returns-then-gives_19
unfolding put_fault write_back
returns-then-gives_19 c = (
  omega arith,
  λ q. absurd (true≢false (sym q)),
  λ t a e.
      let x = c.args in
      let b = (and-eq-true_iff (eqb x.x.state 0) (count_reached x.x.count x.o.used)).0 (sym c.gives_19.ensures ∙ c.if-gives_19.true) in
      let z = eqb-true x.x.state 0 b.0 in
      let k : c.from-then-gives_19.result ≡ 19 = c.from-then-gives_19.ensures ∙ c.from.ensures in
      rw k (count-reached-run-of (write_back t x.c x.x) x.file.now x.claimed.now x.doubtful.now x.c x.piece.now c.requires (ap (λ k. k.state) (write-back-at t x.c a.has x.x) ∙ z)
      (write-back-count-reached t x.c x.o a x.x z ∙ b.1)),
)

pub returns-then-x-lt2 : goal.returns-then-x-lt2
returns-then-x-lt2 c =
    let x = c.args in
    let r = c.header_run.ensures in (
      r.1,
      λ q. r.0,
      λ t a e.
          let f = fits-parts (write_back t x.c x.x) x.file.now x.claimed.now x.doubtful.now e in
          r.2 t x.file.now a (takes-header x.x.state x.x.count x.o.used (sym c.gives_19.ensures ∙ c.if-gives_19.false) c.if-x-lt2.true) f.1 (f.0 ∙ write-back-len t x.c x.x),
    )

pub returns-then-x-gt0 : goal.returns-then-x-gt0
returns-then-x-gt0 c =
    let n = c.payload_run.ensures.0 in (
      omega (arith, n),
      λ q. omega (arith, n, c.if-x-gt0.true, c.requires),
      λ t a e. c.payload_run.ensures.1 t c.args.c c.args.claimed.now c.args.doubtful.now a.has e,
    )

pub returns : goal.returns
returns c = (
  omega arith,
  λ q. absurd (true≢false (sym q)),
  λ t a e.
      let x = c.args in
      let k = write-back-at t x.c a.has x.x in
      let h = ended-above (channel_of x.x) (stage-of-channel t x.c a.has x.x x.file.now x.claimed.now x.doubtful.now e) (omega (arith, c.if-x-lt2.false)) c.if-x-gt0.false in
      ended-run-of (write_back t x.c x.x) x.file.now x.claimed.now x.doubtful.now x.c x.piece.now c.requires (omega (arith, h, ap (λ y. y.state) k)),
)
