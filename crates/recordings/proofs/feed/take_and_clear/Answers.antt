-- `feed::take_and_clear`.
use Rattle.recordings.specs.Kept.{kept}
use borrow.Rule.Slice.PartMut.{put_mid}
use Prim.Native.Nat.{◌-◌}
use Rattle.recordings.proofs.Leaving.{reads-feed, cleared-held}
use mathlib.Core.Path.{sym, ap, ◌∙◌}
use Rattle.recordings.proofs.feed.take_and_clear.Goals as goal

pub returns : goal.returns
returns c =
    let t = c.take-taken in
    let a = c.args in
    let k = kept a.session a.held.now a.file.now a.claimed.now a.doubtful.now in
    let m = kept t.result.session t.new.held t.new.file t.new.claimed t.new.doubtful in
    let r = reads-feed k m a.chunk.now a.out.now t.result.written _ c.requires.0 t.ensures in
    let e = ap (put_mid t.result.session.held (16391 - t.result.session.held) t.new.held) (c.fill.ensures.after (λ y e. e)) ∙ (rw t.ensures.holds.held at (cleared-held m t.ensures.holds)) in
    (rw r.0 t.ensures.writes, ap (λ l. kept t.result.session l t.new.file t.new.claimed t.new.doubtful) e ∙ sym r.1)
