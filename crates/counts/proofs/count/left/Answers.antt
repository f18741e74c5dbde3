-- `count::left`: a fold that adds up to the largest number.
use Prim.Native.Nat.{◌+◌, min}
use native.Mathlib.Omega.{arith}
use borrow.Author.Rules.{rules}
use borrow.Author.Tests.{tests}
use Rattle.std.proofs.lemmas.Iterator.{YieldsList-from_slice}
use Rattle.std.proofs.lemmas.Iterator.Consumers.{fold_from_yields_List}
use Rattle.transfer.specs.Transfer.{left_of}
use Rattle.counts.proofs.Sum.{fold-saturates}
use Rattle.counts.proofs.count.left.Goals as goal

pub returns : goal.returns
unfolding left_of
returns c =
    let ks = c.args.t.channels in
    let e = fold_from_yields_List _ (λ n k. min 18446744073709551615 (n + k.left)) 0 _ c.fold.ensures.ran (YieldsList-from_slice ks cc) (λ a x b q k. search (rules, tests)) in
    omega (arith, fold-saturates 18446744073709551615 (λ k. k.left) ks 0 (omega arith))
