-- `rule::all_zero`: the blocks, then the rest.
use mathlib.Core.Path.{◌≡◌, ap, ◌∙◌}
use Prim.Native.Nat.{◌*◌, ◌/◌}
use borrow.Author.Tests.{tests}
use lib.Dec.{eqb}
use lib.ListN.{length, drop}
use Rattle.std.proofs.Common.{rules}
use Rattle.std.specs.List.{fold}
use Rattle.std.specs.Simd.{first_chunks}
use Rattle.std.proofs.lemmas.Iterator.{YieldsList-from_slice}
use Rattle.std.proofs.lemmas.Iterator.Consumers.{fold_from_yields_List}
use Rattle.ledger.specs.Ledger.{all_zero}
use Rattle.ledger.proofs.Zeros.{or-zero, fold-zeros, with_block, blocks-zero}
use Rattle.ledger.proofs.rule.all_zero.Goals as goal

pub returns : goal.returns
returns c =
    let s = c.args.entries.now in
    let n = length s / 64 in
    let f : c.fold-any.result ≡ fold with_block 0 c.as_chunks.result.0.now = fold_from_yields_List _ with_block 0 c.fold-any.result c.fold-any.ensures.ran (YieldsList-from_slice c.as_chunks.result.0.now (cc)) (λ a x b q k. search (rules, tests)) in
    let front : eqb c.fold-any.result 0 ≡ eqb (fold with_block 0 (first_chunks 64 n s)) 0 = ap (λ m. eqb m 0) (f ∙ ap (fold with_block 0) c.as_chunks.ensures.front) in
    let back : eqb c.joined.result 0 ≡ all_zero (drop (n * 64) s) = ap (λ m. eqb m 0) c.joined.ensures ∙ fold-zeros 0 c.as_chunks.result.1.now ∙ ap all_zero c.as_chunks.ensures.back in
    or-zero c.fold-any.result c.joined.result ∙ rw (front, back) (blocks-zero n 0 s)
