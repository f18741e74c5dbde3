-- `step::step_held`.
use borrow.Author.Rules.{rules}
use Prim.Native.Nat.{◌+◌, ◌-◌, ◌≤◌, min}
use lib.ListN.{length, length-take}
use Rattle.recordings.proofs.Chunk.{held-lacks, held-step}
use mathlib.Core.Path.{◌≡◌, ap, ◌∙◌}
use native.Mathlib.Omega.{arith}
use Rattle.recordings.proofs.step.step_held.Goals as goal
use Rattle.recordings.proofs.step.step_held.Goals.{After-store}

-- the held bytes stay as many, and have room for what the record lacks
kept-length : (c : After-store) → length c.store.new.file ≡ 16391
kept-length c = search rules

fits : (c : After-store) → c.args.s.held + c.min-n.result ≤ 16391
fits c =
    let a = c.args in
    let l = held-lacks a.s a.held.now a.file.now a.claimed.now a.doubtful.now c.requires.3 c.requires.1 in
    omega (arith, kept-length c, c.min-n.ensures, c.record_length.ensures, c.requires.3.held, l)

pub shared_ref_as_front-record_length : goal.shared_ref_as_front-record_length
shared_ref_as_front-record_length c =
    omega (arith, length-take c.args.s.held c.args.held.now, c.requires.3.below, c.requires.3.held)

pub overflow_sub-lacks : goal.overflow_sub-lacks
overflow_sub-lacks c =
    let a = c.args in
    omega (arith, c.record_length.ensures, held-lacks a.s a.held.now a.file.now a.claimed.now a.doubtful.now c.requires.3 c.requires.1)

pub shared_ref_as_front-look : goal.shared_ref_as_front-look
shared_ref_as_front-look c =
    fits (goal.at.shared_ref_as_front-look c).After-store

pub slice_bounds-look-end : goal.slice_bounds-look-end
slice_bounds-look-end c =
    let o = c.store.new.file in
    omega (arith, length-take (c.args.s.held + c.min-n.result) o, kept-length (goal.at.slice_bounds-look-end c).After-store, fits (goal.at.slice_bounds-look-end c).After-store)

pub returns : goal.returns
returns c =
    let k = c.look-looked in
    let a = c.args in
    let f : length k.new.file ≡ 32768 = search rules in
    let g : length k.new.claimed ≡ 512 = search rules in
    let h : length k.new.doubtful ≡ 512 = search rules in
    let e = c.after_look.ensures in
    let m = c.min-n in
    let n = m.ensures ∙ ap (λ z. min (z - a.s.held) (length a.chunk.now)) c.record_length.ensures in
    rw (e.0, e.1, e.2)
    (held-step a.s a.held.now a.file.now a.claimed.now a.doubtful.now a.chunk.now _ _ _ _ a.out.now _ m.result k.result
    c.requires.2 c.requires.1 c.requires.3 c.requires.0 n c.store.ensures (kept-length (goal.at.returns c).After-store, f, g, h) k.ensures)
