-- `line::put_left`.
use mathlib.Core.Path.{refl, ap}
use native.Mathlib.Omega.{arith}
use lib.ListN.{length}
use Rattle.nights.specs.Lines.{left_word}
use Rattle.nights.proofs.Lines.{left-none, left-some}
use Rattle.recordings.proofs.Lines.{left-words, length-number_line}
use Rattle.recordings.proofs.line.put_left.Goals as goal

pub returns-then-n-eq0 : goal.returns-then-n-eq0
returns-then-n-eq0 c = rw (left-none c.args.n c.if-n-eq0.true) (refl, refl)

pub put_number-requires : goal.put_number-requires
put_number-requires c =
    let n = c.args.n in
    omega (arith, ap length (left-some n (omega arith)), length-number_line left_word n)

pub returns : goal.returns
returns c =
    let n = c.args.n in
    rw (left-some n (omega arith), ← left-words n) c.put_number.ensures
