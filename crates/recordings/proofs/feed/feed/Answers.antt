-- `feed::feed`.
use borrow.Author.Rules.{rules}
use Rattle.answers.specs.Refusal.{number}
use Rattle.answers.proofs.Numbers.{above_0}
use Rattle.recordings.specs.Kept.{kept}
use Rattle.recordings.proofs.Refusal.{none_refused, feed-refused, feed-taken, feed-halted, feed-begins}
use mathlib.Core.Path.{refl, ◌∙◌}
use Rattle.recordings.proofs.feed.feed.Goals as goal

pub returns-in-Err : goal.returns-in-Err
returns-in-Err c =
    let a = c.args in
    let k = kept a.session a.held.now a.file.now a.claimed.now a.doubtful.now in
    let e = c.check.ensures a.file.now a.claimed.now a.doubtful.now a.chunk.now refl in
    feed-refused k a.chunk.now a.out.now (number c.in-Err.refusal) (rw c.in-Err.is at e) (above_0 c.in-Err.refusal)

pub returns-then-session : goal.returns-then-session
returns-then-session c =
    let a = c.args in
    let k = kept a.session a.held.now a.file.now a.claimed.now a.doubtful.now in
    let e = c.check.ensures a.file.now a.claimed.now a.doubtful.now a.chunk.now refl in
    feed-halted k a.chunk.now a.out.now (none_refused c.check.result c.in_default.not-Err ∙ e) c.if-session.true

pub take_and_clear-taken-requires : goal.take_and_clear-taken-requires
take_and_clear-taken-requires c =
    let a = c.args in
    let k = kept a.session a.held.now a.file.now a.claimed.now a.doubtful.now in
    let e = c.check.ensures a.file.now a.claimed.now a.doubtful.now a.chunk.now refl in
    let x = feed-begins k a.chunk.now a.out.now (none_refused c.check.result c.in_default.not-Err ∙ e) c.if-session.false (search rules, search rules, search rules, search rules) in
    (c.if-session.false, x.0, x.1)

pub returns : goal.returns
returns c =
    let a = c.args in
    let k = kept a.session a.held.now a.file.now a.claimed.now a.doubtful.now in
    let t = c.take_and_clear-taken in
    let e = c.check.ensures a.file.now a.claimed.now a.doubtful.now a.chunk.now refl in
    feed-taken k a.chunk.now a.out.now (none_refused c.check.result c.in_default.not-Err ∙ e) _ _ _ t.ensures.0 t.ensures.1
