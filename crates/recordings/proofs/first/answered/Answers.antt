-- `first::answered`.
use Rattle.recordings.specs.Kept.{replay_state}
use Rattle.nights.specs.Request.{record_limit}
use Rattle.frames.proofs.FirstRecord.{first-prefix-whole}
use lib.ListN.{length-take}
use mathlib.Core.List.{[]}
use Rattle.recordings.proofs.Steps.{answered-stops, answered-prints}
use native.Mathlib.Omega.{arith}
use Rattle.recordings.proofs.first.answered.Goals as goal

pub slice_bounds-of_record-end : goal.slice_bounds-of_record-end
slice_bounds-of_record-end c =
    let h = first-prefix-whole record_limit c.args.bytes.now [] c.args.n c.requires.0 in
    omega (arith, length-take c.args.n c.args.bytes.now, h.1)

pub returns-in-None : goal.returns-in-None
returns-in-None c =
    let x = c.args in
    let o = c.of_record.new in
    let d = replay_state x.p x.file.now x.claimed.now x.doubtful.now in
    let a = answered-stops d x.bytes.now x.n c.requires.0 x.out.now o.file o.claimed o.doubtful o.out c.in-None.ensures in
    (a.0, rw a.1 at c.put_record.ensures, a.2)

pub returns-in-Some : goal.returns-in-Some
returns-in-Some c =
    let x = c.args in
    let o = c.of_record.new in
    let d = replay_state x.p x.file.now x.claimed.now x.doubtful.now in
    answered-prints d x.bytes.now x.n c.requires.0 x.out.now o.file o.claimed o.doubtful o.out c.in-Some.turned c.in-Some.ensures
