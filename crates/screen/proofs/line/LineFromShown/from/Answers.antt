-- `Line::from`.
use Prim.Native.Nat.{◌≤◌}
use mathlib.Core.Path.{ap}
use native.Mathlib.Omega.{arith}
use borrow.Author.Rules.{rules}
use lib.ListN.{length, length-append}
use Rattle.verdicts.specs.Verdict.{to_verdict}
use Rattle.screen.specs.Screen.{line_text_of}
use Rattle.screen.proofs.Screen.{digits-most, length-line_text, line-most}
use Rattle.screen.proofs.line.LineFromShown.from.Goals as goal
use Rattle.screen.proofs.line.LineFromShown.from.Goals.{Start}

-- every number is one of 64 bits, so that the line fits
fits : (c : Start) → length (line_text_of c.args.n) ≤ 116
fits c =
    let n = c.args.n in
    line-most 20 n.fault n.on n.ended n.count n.bytes n.doubtful
    (digits-most 19 n.fault (omega arith)) (digits-most 19 n.on (omega arith)) (digits-most 19 n.ended (omega arith)) (digits-most 19 n.count (omega arith))
    (search rules) (search rules) (to_verdict n.verdict)

pub front-requires : goal.front-requires
front-requires c =
    let n = c.args.n in
    omega (arith, ap length c.new-line.ensures, fits (goal.at.front-requires c).Start, length-line_text (to_verdict n.verdict) n.fault n.on n.ended n.count n.bytes n.doubtful)

pub word-requires : goal.word-requires
word-requires c =
    let n = c.args.n in
    omega (arith, ap length c.new-line.ensures, simp length-append at (ap length c.front.ensures), fits (goal.at.word-requires c).Start, length-line_text (to_verdict n.verdict) n.fault n.on n.ended n.count n.bytes n.doubtful)

pub number-requires : goal.number-requires
number-requires c =
    let n = c.args.n in
    omega (arith, ap length c.new-line.ensures, simp length-append at (ap length c.front.ensures), simp length-append at (ap length c.word.ensures), fits (goal.at.number-requires c).Start, length-line_text (to_verdict n.verdict) n.fault n.on n.ended n.count n.bytes n.doubtful)

pub tail-requires : goal.tail-requires
tail-requires c =
    let n = c.args.n in
    omega (arith, ap length c.new-line.ensures, simp length-append at (ap length c.front.ensures), simp length-append at (ap length c.word.ensures), simp length-append at (ap length c.number.ensures), fits (goal.at.tail-requires c).Start, length-line_text (to_verdict n.verdict) n.fault n.on n.ended n.count n.bytes n.doubtful)
