-- `line::put_record`.
use borrow.Author.Rules.{rules}
use Rattle.recordings.proofs.Lines.{record-words, record-short, decimal-long}
use Prim.Native.Nat.{◌<◌}
use native.Mathlib.Omega.{arith}
use Rattle.recordings.proofs.line.put_record.Goals as goal

pub put_number-requires : goal.put_number-requires
put_number-requires c =
    let n = c.args.number in
    let h : n < 18446744073709551616 = search rules in
    omega (arith, decimal-long n (omega arith))

pub returns : goal.returns
returns c =
    let n = c.args.number in
    let h : n < 18446744073709551616 = search rules in
    (omega (arith, record-short n (omega arith)), rw (← record-words n) c.put_number.ensures)
