-- `feed::take`.
use borrow.Author.Rules.{rules}
use Prim.Native.Nat.{◌+◌, ◌-◌, ◌≤◌, ◌<◌}
use mathlib.Core.Path.{◌≡◌, refl}
use native.Mathlib.Omega.{arith}
use borrow.Rule.Slice.PartMut.{put_mid}
use lib.ListN.{length, drop, length-take, length-drop}
use Rattle.recordings.specs.Kept.{Kept, kept}
use Rattle.recordings.proofs.Taking.{Taking, taking-none, step-within, taking_step, taking-length, taken-stopped, taken-all}
use Rattle.recordings.proofs.feed.take.Goals as goal
use Rattle.recordings.proofs.feed.take.Goals.{After-step-stepped}

-- what is kept at the beginning, and after a step
abbrev first : After-step-stepped → Kept
first c = let a = c.args in kept a.session a.held.now a.file.now a.claimed.now a.doubtful.now

abbrev next : After-step-stepped → Kept
next c = let s = c.step-stepped in kept s.result.session s.new.held s.new.file s.new.claimed s.new.doubtful

within : (c : After-step-stepped) → (c.loop-at.at + c.step-stepped.result.taken ≤ length c.args.chunk.now) × (c.step-stepped.result.written ≤ 96)
within c =
    let l = c.loop-at in
    let a = c.args in
    step-within (first c) a.chunk.now a.out.now (kept l.s l.held l.file l.claimed l.doubtful) (next c) l.at l.written c.step-stepped.result.taken c.step-stepped.result.written
    l.out c.step-stepped.new.out l.invariant.0 l.invariant.1 c.step-stepped.ensures

stepped : (c : After-step-stepped)
    → let l = c.loop-at in
    Taking (first c) c.args.chunk.now c.args.out.now (next c) (l.at + c.step-stepped.result.taken) (l.written + c.step-stepped.result.written)
    (put_mid l.written (length l.out - l.written) l.out c.step-stepped.new.out)
stepped c =
    let l = c.loop-at in
    let a = c.args in
    taking_step (first c) a.chunk.now a.out.now (kept l.s l.held l.file l.claimed l.doubtful) (next c) l.at l.written c.step-stepped.result.taken c.step-stepped.result.written
    l.out c.step-stepped.new.out l.invariant.0 l.invariant.1 c.step-stepped.ensures c.loop-at-test.true

-- the lent bytes have room for it, and stay as many
room : (c : After-step-stepped) → c.loop-at.written + c.step-stepped.result.written ≤ length c.args.out.now
room c =
    let l = c.loop-at in
    omega (arith, (within c).1, l.invariant.0.room l.invariant.1, l.invariant.0.within, c.requires.2)

longs : (c : After-step-stepped)
    → let l = c.loop-at in
    length (put_mid l.written (length l.out - l.written) l.out c.step-stepped.new.out) ≡ length c.args.out.now
longs c =
    let a = c.args in
    taking-length (first c) a.chunk.now a.out.now (next c) _ _ _ (stepped c) (room c)

pub loop-at-init : goal.loop-at-init
loop-at-init c =
    let a = c.args in
    let h : length a.out.now < 18446744073709551616 = search rules in
    (taking-none (kept a.session a.held.now a.file.now a.claimed.now a.doubtful.now) a.chunk.now a.out.now c.requires.1, c.requires.0, refl, h)

pub slice_bounds-step-count-in-loop-at : goal.slice_bounds-step-count-in-loop-at
slice_bounds-step-count-in-loop-at c =
    let l = c.loop-at in
    omega (arith, l.invariant.0.room l.invariant.1, l.invariant.0.within, l.invariant.2, c.requires.2)

pub slice_bounds-step-start-in-loop-at : goal.slice_bounds-step-start-in-loop-at
slice_bounds-step-start-in-loop-at c =
    let l = c.loop-at in
    omega (arith, l.invariant.0.room l.invariant.1, l.invariant.0.within, l.invariant.2, c.requires.2)

pub slice_bounds-step-end-in-loop-at : goal.slice_bounds-step-end-in-loop-at
slice_bounds-step-end-in-loop-at c =
    let l = c.loop-at in
    omega (arith, l.invariant.0.room l.invariant.1, l.invariant.0.within, l.invariant.2, c.requires.2)

pub step-stepped-requires : goal.step-stepped-requires
step-stepped-requires c =
    let l = c.loop-at in
    let n = length c.args.chunk.now - l.at in
    let m = length l.out - l.written in (
      omega (arith, length-take n (drop l.at c.args.chunk.now), length-drop l.at c.args.chunk.now, c.loop-at-test.true),
      l.invariant.1,
      l.invariant.0.holds,
      omega (arith, length-take m (drop l.written l.out), length-drop l.written l.out, l.invariant.0.room l.invariant.1, l.invariant.0.within, l.invariant.2, c.requires.2),
    )

pub overflow_add-at : goal.overflow_add-at
overflow_add-at c =
    omega (arith, (within (goal.at.overflow_add-at c).After-step-stepped).0, c.loop-at.invariant.3, c.requires.2)

pub overflow_add-written : goal.overflow_add-written
overflow_add-written c =
    omega (arith, room (goal.at.overflow_add-written c).After-step-stepped, c.loop-at.invariant.3)

pub shape_of-out-then-s : goal.shape_of-out-then-s
shape_of-out-then-s c =
    longs (goal.at.shape_of-out-then-s c).After-step-stepped

pub returns-then-s : goal.returns-then-s
returns-then-s c =
    let a = c.args in
    taken-stopped (first (goal.at.returns-then-s c).After-step-stepped) a.chunk.now a.out.now (next (goal.at.returns-then-s c).After-step-stepped) _ _ _ (stepped (goal.at.returns-then-s c).After-step-stepped) c.if-s.true

pub loop-at-smaller : goal.loop-at-smaller
loop-at-smaller c =
    omega (arith, (within (goal.at.loop-at-smaller c).After-step-stepped).0, c.step-stepped.ensures.some)

pub loop-at-preserved : goal.loop-at-preserved
loop-at-preserved c =
    (stepped (goal.at.loop-at-preserved c).After-step-stepped, c.if-s.false, longs (goal.at.loop-at-preserved c).After-step-stepped, c.loop-at.invariant.3)

pub shape_of-out : goal.shape_of-out
shape_of-out c =
    c.loop-at.invariant.2

pub returns : goal.returns
returns c =
    let l = c.loop-at in
    let a = c.args in
    taken-all (kept a.session a.held.now a.file.now a.claimed.now a.doubtful.now) a.chunk.now a.out.now (kept l.s l.held l.file l.claimed l.doubtful) l.at l.written l.out l.invariant.0 c.loop-at-test.false
