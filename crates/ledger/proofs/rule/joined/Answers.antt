-- `rule::joined`.
use borrow.Author.Tests.{tests}
use lib.Bits.{bit_or}
use Rattle.std.proofs.Common.{rules}
use Rattle.std.proofs.lemmas.Iterator.{YieldsList-from_slice}
use Rattle.std.proofs.lemmas.Iterator.Consumers.{fold_from_yields_List}
use Rattle.ledger.proofs.rule.joined.Goals as goal

pub returns : goal.returns
returns c =
    fold_from_yields_List _ bit_or 0 c.fold.result c.fold.ensures.ran (YieldsList-from_slice c.args.entries.now (cc)) (λ a x b q k. search (rules, tests))
