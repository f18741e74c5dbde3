-- `header_run::judge_run`: the last byte of a header, as the law of a header's bytes says.
use Rattle.std.proofs.Common.{◌≡◌, ◌+◌, ◌*◌, true, [], ◌∷◌, ◌++◌, length, get_or, take, sym, refl, ap, ◌∙◌, arith, length-take, rules}
use Rattle.transfer.specs.declared.state.Transfer.{Transfer}
use Rattle.transfer.specs.Fit.{fits_without_file}
use Rattle.channels.specs.ChannelState.{write_back}
use Rattle.channels.specs.HeldBytes.{with_held_bytes}
use Rattle.channels.specs.OtherChannels.{CountsOthers}
use Rattle.channels.proofs.WriteBack.{with-held-bytes-state, write-back-at, write-back-len, write-back-bytes, write-back-held-bytes, write-back-pairs}
use Rattle.runs.proofs.Runs.{held-at-most, ledgers-fit, write-back-takes, judged-run-of}
use Rattle.runs.proofs.header_run.judge_run.Goals as goal
use Rattle.runs.proofs.header_run.judge_run.Goals.{After-hold_bytes-y, After-slice_known-2-1}

sixteen : (s : After-slice_known-2-1) → length s.args.x.bytes ≡ 16
sixteen s = search rules

held-sixteen : (h : After-hold_bytes-y) → length h.hold_bytes-y.result.bytes ≡ 16
held-sixteen h = search rules

-- of a transfer that fits, with x for its channel
filled : (h : After-hold_bytes-y) (t : Transfer) → let x = h.args in CountsOthers t x.c x.o → fits_without_file (write_back t x.c x.x) x.claimed.now x.doubtful.now ≡ true
    → (x.x.held + length (take x.more x.piece.now) ≡ 16) × (h.hold_bytes-y.result ≡ with_held_bytes x.x (take x.more x.piece.now))
filled h t a e =
    let x = h.args in
    let f = held-at-most t x.claimed.now x.doubtful.now x.c a.has x.x e in
    let l : x.x.held + length (take x.more x.piece.now) ≡ 16 = omega (arith, f, h.requires.0, h.requires.1, length-take x.more x.piece.now) in
    (l, h.hold_bytes-y.ensures (omega (arith, l)))

pub slice_bounds-hold_bytes-end : goal.slice_bounds-hold_bytes-end
slice_bounds-hold_bytes-end c = let x = c.args in omega (arith, length-take x.more x.piece.now)

pub hold_bytes-y-requires : goal.hold_bytes-y-requires
hold_bytes-y-requires c =
    let x = c.args in
    omega (arith, c.requires.1, length-take x.more x.piece.now)

pub returns : goal.returns
returns c = (
  refl,
  λ t file a k e n.
      let x = c.args in
      let b = ap (λ z. z.held) (write-back-at t x.c a.has x.x) in
      let g = filled (goal.at.returns c).After-hold_bytes-y t a e in
      let l = length-take x.more x.piece.now in
      let p = write-back-pairs t x.c x.x in
      let f = ledgers-fit (write_back t x.c x.x) x.claimed.now x.doubtful.now e in
      judged-run-of (write_back t x.c x.x) x.claimed.now x.doubtful.now _ _ x.c x.piece.now x.more a.has.below e (write-back-takes t x.c x.o a x.x k) (omega (arith, b, g.0, l, c.requires.0)) c.requires.0
      (write_back t x.c c.hold_bytes-y.result) (ap (write_back t x.c) g.1 ∙ write-back-held-bytes t x.c a.has x.x (sixteen (goal.at.returns c).After-slice_known-2-1) (take x.more x.piece.now) (omega (arith, g.0)))
      c.whole_header-whole.result (c.whole_header-whole.ensures ∙ ap (λ z. z ++ get_or x.piece.now x.more 0 ∷ []) (sym (write-back-bytes t x.c a.has c.hold_bytes-y.result (held-sixteen (goal.at.returns c).After-hold_bytes-y))))
      (write_back t x.c c.apply_header-next.result.channel) c.apply_header-next.result.continues
      (λ v. c.apply_header-next.ensures (ap (λ z. z.state) g.1 ∙ with-held-bytes-state x.x (take x.more x.piece.now)) f.0 t v a (f.1 ∙ ap (λ z. 2 * z) p) (rw (sym p) f.2)) file
      (n ∙ sym (write-back-len t x.c x.x)),
)
