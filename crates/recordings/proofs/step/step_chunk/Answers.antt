-- `step::step_chunk`.
use borrow.Author.Rules.{rules}
use lib.ListN.{length}
use Rattle.recordings.proofs.Chunk.{chunk-answered, chunk-held}
use mathlib.Core.Path.{◌≡◌}
use Rattle.recordings.proofs.step.step_chunk.Goals as goal

pub returns-in-Answered : goal.returns-in-Answered
returns-in-Answered c =
    let k = c.in-Answered in
    let a = c.args in
    let l : length a.held.now ≡ 16391 = search rules in
    let o = c.look-looked in
    let e = c.after_look.ensures in
    rw (e.0, e.1, e.2)
    (chunk-answered a.s a.held.now a.file.now a.claimed.now a.doubtful.now a.chunk.now a.out.now _ c.requires.2 c.requires.1 c.requires.0
    _ _ _ (l, o.array_long, o.array_long2, o.array_long3) k.progress k.used k.written k.ensures)

pub returns : goal.returns
returns c =
    let a = c.args in
    let l : length a.held.now ≡ 16391 = search rules in
    let m : length c.store.new.file ≡ 16391 = search rules in
    let o = c.look-looked in
    let e = c.after_look-2.ensures in
    rw (e.0, e.1, e.2)
    (chunk-held a.s a.held.now a.file.now a.claimed.now a.doubtful.now a.chunk.now a.out.now _ c.requires.2 c.requires.1 c.requires.0
    _ _ _ _ (m, o.array_long, o.array_long2, o.array_long3) l c.store.ensures o.result c.in_default.not-Answered o.ensures)
