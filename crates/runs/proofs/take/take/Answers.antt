-- `take::take`: the bytes taken by the runs so far, and those after them, are all.
use Rattle.std.proofs.Common.{◌≡◌, ℕ, ◌+◌, ◌-◌, ◌≤◌, true, List, length, take, drop, sym, refl, ap, ◌∙◌, subst, arith, length-drop, drop_of_length-le, take_all}
use borrow.Author.Tests.{not-true, not-false}
use Rattle.transfer.specs.declared.state.Transfer.{Transfer}
use Rattle.transfer.specs.Transfer.{World, world}
use Rattle.transfer.specs.Receive.{take_byte}
use Rattle.transfer.specs.Fit.{fits}
use Rattle.transfer.proofs.ReceivePieces.{bytes-none}
use Rattle.channels.specs.ChannelState.{write_back}
use Rattle.channels.specs.OtherChannels.{CountsOthers}
use Rattle.runs.specs.Runs.{take_bytes_on, RunOf}
use Rattle.runs.proofs.CallRuns.{further, stopped, still-fits}
use Rattle.runs.proofs.take.take.Goals as goal
use Rattle.runs.proofs.take.take.Goals.{After-run-r, After-shared_slice_known-1, At-loop-taken}

-- the part of the piece that is lent
part : (piece : List ℕ) (i : ℕ) → take (length piece - i) (drop i piece) ≡ drop i piece
part piece i = take_all (length piece - i) (drop i piece) (omega (arith, length-drop i piece))

-- the channel as the runs so far left it, in its transfer
abbrev reached : (l : At-loop-taken) → Transfer → World
reached l t = world (write_back t l.args.c l.loop-taken.channel) l.loop-taken.file l.loop-taken.claimed l.loop-taken.doubtful

abbrev Fitting : (l : At-loop-taken) → Transfer → Type 0
Fitting l t =
    let x = l.args in
    CountsOthers t x.c x.o × (fits (world (write_back t x.c x.x) x.file.now x.claimed.now x.doubtful.now) ≡ true)

-- one run, of the bytes after those taken
run_of : (e : After-run-r) → let x = e.args in
    (t : Transfer) → Fitting (goal.at.After-run-r e).At-loop-taken t
    → RunOf x.c (reached (goal.at.After-run-r e).At-loop-taken t) (drop e.loop-taken.taken x.piece.now) (world (write_back t x.c e.run-r.result.channel) e.run-r.new.file e.run-r.new.claimed e.run-r.new.doubtful) e.run-r.result.taken e.run-r.result.continues
run_of e t (a, f) =
    let x = e.args in
    subst (λ p. RunOf x.c (reached (goal.at.After-run-r e).At-loop-taken t) p (world (write_back t x.c e.run-r.result.channel) e.run-r.new.file e.run-r.new.claimed e.run-r.new.doubtful) e.run-r.result.taken e.run-r.result.continues)
    (part x.piece.now e.loop-taken.taken) (e.run-r.ensures.2 t a (e.loop-taken.invariant.4 t a f).0)

piece-fits : (a : After-shared_slice_known-1) → length a.args.piece.now ≤ 18446744073709551615
piece-fits a = omega arith

taken-within : (e : After-run-r) → e.loop-taken.taken + e.run-r.result.taken ≤ length e.args.piece.now
taken-within e =
    let p = e.args.piece.now in
    omega (arith, e.run-r.ensures.0, ap length (part p e.loop-taken.taken), length-drop e.loop-taken.taken p, e.loop-taken.invariant.0)

pub loop-taken-init : goal.loop-taken-init
loop-taken-init c = (omega arith, refl, refl, refl, λ t a f. (f, refl))

pub run-r-requires : goal.run-r-requires
run-r-requires c =
    let x = c.args in
    omega (arith, ap length (part x.piece.now c.loop-taken.taken), length-drop c.loop-taken.taken x.piece.now)

pub overflow_add-taken : goal.overflow_add-taken
overflow_add-taken c =
    omega (arith, taken-within (goal.at.overflow_add-taken c).After-run-r, piece-fits (goal.at.overflow_add-taken c).After-shared_slice_known-1)

pub shape_of-file-then-not-r : goal.shape_of-file-then-not-r
shape_of-file-then-not-r c =
    c.run-r.auto.file ∙ c.loop-taken.invariant.1

pub shape_of-claimed-then-not-r : goal.shape_of-claimed-then-not-r
shape_of-claimed-then-not-r c =
    c.run-r.auto.claimed ∙ c.loop-taken.invariant.2

pub shape_of-doubtful-then-not-r : goal.shape_of-doubtful-then-not-r
shape_of-doubtful-then-not-r c =
    c.run-r.auto.doubtful ∙ c.loop-taken.invariant.3

pub returns-then-not-r : goal.returns-then-not-r
returns-then-not-r c t a f =
    let x = c.args in
    sym ((c.loop-taken.invariant.4 t a f).1 ∙ stopped x.c a.has.below _ _ x.piece.now c.loop-taken.taken c.run-r.result.taken c.run-r.result.continues (run_of (goal.at.returns-then-not-r c).After-run-r t (a, f)) (not-true c.run-r.result.continues c.if-not-r.true))

pub loop-taken-smaller : goal.loop-taken-smaller
loop-taken-smaller c =
    omega (arith, taken-within (goal.at.loop-taken-smaller c).After-run-r, c.run-r.ensures.1 (not-false c.run-r.result.continues c.if-not-r.false))

pub loop-taken-preserved : goal.loop-taken-preserved
loop-taken-preserved c =
    let x = c.args in
    let v = c.loop-taken.invariant in
    let o = not-false c.run-r.result.continues c.if-not-r.false in (
      taken-within (goal.at.loop-taken-preserved c).After-run-r,
      c.run-r.auto.file ∙ v.1,
      c.run-r.auto.claimed ∙ v.2,
      c.run-r.auto.doubtful ∙ v.3,
      λ t a f.
          let r = run_of (goal.at.loop-taken-preserved c).After-run-r t (a, f) in (
            still-fits x.c a.has.below _ _ x.piece.now c.loop-taken.taken c.run-r.result.taken c.run-r.result.continues r o (v.4 t a f).0,
            (v.4 t a f).1 ∙ further x.c a.has.below _ _ x.piece.now c.loop-taken.taken c.run-r.result.taken c.run-r.result.continues r o,
          ),
    )

pub shape_of-file : goal.shape_of-file
shape_of-file c = c.loop-taken.invariant.1

pub shape_of-claimed : goal.shape_of-claimed
shape_of-claimed c = c.loop-taken.invariant.2

pub shape_of-doubtful : goal.shape_of-doubtful
shape_of-doubtful c = c.loop-taken.invariant.3

pub returns : goal.returns
returns c t a f =
    let x = c.args in
    sym ((c.loop-taken.invariant.4 t a f).1 ∙ ap (λ p. take_bytes_on x.c (reached (goal.at.returns c).At-loop-taken t) p c.loop-taken.taken) (drop_of_length-le x.piece.now c.loop-taken-test.false) ∙ bytes-none (λ v b. take_byte v x.c b) (reached (goal.at.returns c).At-loop-taken t) c.loop-taken.taken)
