-- `line::put_number`.
use Prim.Native.Nat.{◌+◌, ◌≤◌}
use native.Mathlib.Omega.{arith}
use lib.ListN.{length, length-set}
use Rattle.octets.proofs.Decimals.{length-decimal}
use Rattle.recordings.proofs.Lines.{word-stored, number-written, line_written}
use Rattle.recordings.proofs.line.put_number.Goals as goal
use Rattle.recordings.proofs.line.put_number.Goals.{After-length}

-- the line ends within the lent bytes
ends : (d : After-length) → let x = d.args in length x.word.now + d.length.result + 1 ≤ length x.out.now
ends d = omega (arith, length-decimal d.args.n)

pub overflow_add-end : goal.overflow_add-end
overflow_add-end c = omega (arith, ends c)

pub slice_bounds-write-end : goal.slice_bounds-write-end
slice_bounds-write-end c = omega (arith, ends (goal.at.slice_bounds-write-end c).After-length)

pub bounds-out-end : goal.bounds-out-end
bounds-out-end c = omega (arith, ends (goal.at.bounds-out-end c).After-length)

pub overflow_add-result : goal.overflow_add-result
overflow_add-result c = omega (arith, ends (goal.at.overflow_add-result c).After-length)

pub shape_of-out : goal.shape_of-out
shape_of-out c = simp length-set (omega arith)

pub returns : goal.returns
returns c =
    let x = c.args in
    let at = length x.word.now in
    let end = at + c.length.result in
    line_written x.out.now _ _ x.word.now x.n at end c.requires (word-stored x.word.now x.out.now _ (omega arith) c.store.ensures)
    (number-written c.store.new.file _ at x.n end (omega arith) (omega (arith, ends (goal.at.returns c).After-length)) c.write.ensures)
