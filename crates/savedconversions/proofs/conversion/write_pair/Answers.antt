-- `conversion::write_pair`.
use Prim.Native.Nat.{◌+◌, ◌≤◌}
use mathlib.Core.Path.{◌≡◌, ◌∙◌}
use mathlib.Core.List.{◌++◌, append-nil}
use native.Mathlib.Omega.{arith}
use lib.ListN.{length, take, drop, drop_of_length-le}
use lib.Seq.{length-take-le}
use Rattle.octets.specs.Digits.{to_little_endian}
use Rattle.octets.proofs.Digits.{length-to_little}
use Rattle.savedrecords.specs.Kind.{second_of}
use Rattle.savedconversions.proofs.Parts.{number_behind}
use Rattle.savedconversions.proofs.conversion.write_pair.Goals as goal

pub returns : goal.returns
returns c =
    let x = c.args in
    let out = x.out.now in
    let start = to_little_endian 256 8 x.pair.start in
    let number = second_of x.second x.pair.start (x.pair.start + x.pair.length) in
    let none : length out ≤ 16 = omega arith in
    let eight : length (take 8 out) ≡ 8 = length-take-le 8 out (omega arith) in
    let first : c.write.new.out ≡ start = rw eight at c.write.ensures in
    let front : c.write.new.out ++ drop 8 out ≡ start ++ drop 8 out = rw first in
    let e = rw c.second_of-number.ensures at c.write-2.ensures in
    number_behind out _ start _ 8 8 front (length-to_little 256 8 x.pair.start) number (omega arith) e
    ∙ rw (drop_of_length-le out none) (append-nil _)
