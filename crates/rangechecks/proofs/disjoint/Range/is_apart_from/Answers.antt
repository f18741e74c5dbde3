-- `disjoint::Range::is_apart_from`.
use mathlib.Core.Path.{◌∙◌}
use borrow.Author.Tests.{tests}
use Rattle.std.proofs.Common.{rules}
use Rattle.std.proofs.lemmas.Iterator.{YieldsList-from_slice}
use Rattle.std.proofs.lemmas.Iterator.Search.{all_from_yields_List}
use Rattle.rangechecks.proofs.Ranges.{apart, all-apart}
use Rattle.rangechecks.proofs.disjoint.Range.is_apart_from.Goals as goal

pub returns : goal.returns
returns c =
    let x = c.args in
    all_from_yields_List (apart x.self.start x.self.length) _ _ c.all.result c.all.ensures.ran (YieldsList-from_slice x.others.now (cc)) (λ y b q k. search (rules, tests))
    ∙ all-apart x.self.start x.self.length x.others.now
