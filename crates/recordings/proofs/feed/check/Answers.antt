-- `feed::check`.
use borrow.Author.Tests.{not-true, not-false}
use lib.ListN.{length, length-take}
use Rattle.recordings.proofs.Refusal.{refused-1, refused-55, refused_none}
use mathlib.Core.Path.{sym, ◌∙◌}
use native.Mathlib.Omega.{arith}
use Prim.Native.Nat.{◌+◌, ◌*◌, ◌<◌}
use Rattle.recordings.proofs.feed.check.Goals as goal
use Rattle.recordings.proofs.feed.check.Goals.{then-out-lt-ROOM-via-then-out-lt-ROOM, then-out-lt-ROOM-via-else-out-lt-ROOM+then-out-n}

pub slice_bounds-is_unfinished-end : goal.slice_bounds-is_unfinished-end
slice_bounds-is_unfinished-end c =
    let h = c.args.held.now in
    omega (arith, length-take c.min-used.result h, c.min-used.ensures)

pub returns-then-not-is_unfinished : goal.returns-then-not-is_unfinished
returns-then-not-is_unfinished c =
    let a = c.args in
    let u = c.is_unfinished in
    let n = c.min-used.ensures in
    λ file claimed doubtful chunk e. refused-1 a.session a.held.now file claimed doubtful chunk a.out.now _ n (sym u.ensures ∙ not-true u.result c.if-not-is_unfinished.true-raw)

pub returns-then-out-lt-ROOM : goal.returns-then-out-lt-ROOM
returns-then-out-lt-ROOM c =
    let a = c.args in
    let u = c.is_unfinished in
    let n = c.min-used.ensures in
    let short : length a.out.now < 192 + 16 * a.n =
    elim c.then-out-lt-ROOM.branch [
      | then-out-lt-ROOM-via-then-out-lt-ROOM w ↦ omega (arith, w.if-out-lt-ROOM.true)
      | then-out-lt-ROOM-via-else-out-lt-ROOM+then-out-n w ↦ omega (arith, w.if-out-lt-ROOM.false, w.if-out-n.true)
    ] in
    λ file claimed doubtful chunk e. refused-55 a.session a.held.now file claimed doubtful chunk a.out.now _ n (sym u.ensures ∙ not-false u.result c.if-not-is_unfinished.false-raw) (omega (arith, e, short))

pub returns : goal.returns
returns c =
    let a = c.args in
    let u = c.is_unfinished in
    let n = c.min-used.ensures in
    λ file claimed doubtful chunk e. refused_none a.session a.held.now file claimed doubtful chunk a.out.now _ n (sym u.ensures ∙ not-false u.result c.if-not-is_unfinished.false-raw) (omega (arith, e, c.if-out-lt-ROOM.false, c.if-out-n.false))
