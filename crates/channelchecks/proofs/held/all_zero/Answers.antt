-- `held::all_zero`.
use mathlib.Core.Path.{◌≡◌, ap, ◌∙◌}
use borrow.Author.Tests.{tests}
use lib.Bits.{bit_or}
use lib.Dec.{eqb}
use Rattle.std.proofs.Common.{rules}
use Rattle.std.specs.List.{fold}
use Rattle.std.proofs.lemmas.Iterator.{YieldsList-from_slice}
use Rattle.std.proofs.lemmas.Iterator.Consumers.{fold_from_yields_List}
use Rattle.ledger.proofs.Zeros.{fold-zeros}
use Rattle.channelchecks.proofs.held.all_zero.Goals as goal

pub returns : goal.returns
returns c =
    let s = c.args.bytes.now in
    let e : c.fold.result ≡ fold bit_or 0 s = fold_from_yields_List _ bit_or 0 c.fold.result c.fold.ensures.ran (YieldsList-from_slice s (cc)) (λ a x b q k. search (rules, tests)) in
    ap (λ n. eqb n 0) e ∙ fold-zeros 0 s
