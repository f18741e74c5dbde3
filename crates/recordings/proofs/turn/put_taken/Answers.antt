-- `turn::put_taken`.
use Prim.Native.Nat.{◌≤◌}
use native.Mathlib.Omega.{arith}
use lib.ListN.{length, length-append, length-take, length-drop}
use Rattle.screen.specs.Screen.{line_for}
use Rattle.nights.specs.Lines.{left_line}
use Rattle.recordings.proofs.Lines.{left-short}
use Rattle.recordings.proofs.Fronts.{front-append}
use Rattle.recordings.proofs.turn.put_taken.Goals as goal
use Rattle.recordings.proofs.turn.put_taken.Goals.{After-put_left-at, After-slice_known-1}

short : (c : After-slice_known-1) → length (left_line c.args.left) ≤ 11
short c =
    left-short c.args.left c.requires.1

-- what is written before the screen line
left : (c : After-put_left-at) → c.put_left-at.result ≤ 11
left c = omega (arith, c.put_left-at.ensures.0, short (goal.at.After-put_left-at c).After-slice_known-1)

pub put_left-at-requires : goal.put_left-at-requires
put_left-at-requires c = omega (arith, short (goal.at.put_left-at-requires c).After-slice_known-1)

pub slice_bounds-put_screen-count : goal.slice_bounds-put_screen-count
slice_bounds-put_screen-count c = omega (arith, left (goal.at.slice_bounds-put_screen-count c).After-put_left-at)

pub slice_bounds-put_screen-start : goal.slice_bounds-put_screen-start
slice_bounds-put_screen-start c = omega (arith, left (goal.at.slice_bounds-put_screen-start c).After-put_left-at)

pub put_screen-requires : goal.put_screen-requires
put_screen-requires c =
    (c.requires.0, simp (length-take, length-drop) (omega (arith, left (goal.at.put_screen-requires c).After-put_left-at)))

pub overflow_add-result : goal.overflow_add-result
overflow_add-result c =
    omega (arith, left (goal.at.overflow_add-result c).After-put_left-at, c.put_screen.ensures)

pub returns : goal.returns
returns c =
    let x = c.args in
    let e = c.put_screen.ensures in (
      omega (arith, length-append (left_line x.left) (line_for x.receiver.transfer x.claimed.now x.doubtful.now), short (goal.at.returns c).After-slice_known-1, e.0),
      front-append (left_line x.left) (line_for x.receiver.transfer x.claimed.now x.doubtful.now) x.out.now _ _ _ _ c.put_left-at.ensures e.1,
    )
