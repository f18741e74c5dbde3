-- `text::leading`: the count of what `take_while` gives.
use mathlib.Core.Path.{◌∙◌}
use Rattle.std.proofs.Common.{rules, tests}
use Rattle.std.proofs.lemmas.Iterator.{YieldsList-from_slice}
use Rattle.std.proofs.lemmas.Iterator.Consumers.{YieldsList-at, count_from_yields_List}
use Rattle.std.proofs.lemmas.Iterator.Search.{YieldsList-from_take_while}
use Rattle.std.proofs.lemmas.List.Folds.{length-prefix_len}
use Rattle.texts.specs.Text.{is_of_kind}
use Rattle.texts.proofs.Texts.{prefix_is}
use Rattle.texts.proofs.text.leading.Goals as goal

pub returns : goal.returns
returns c =
    let x = c.args in
    let kind = is_of_kind x.kind in
    count_from_yields_List c.take_while.result c.count.result c.count.ensures.ran
    (YieldsList-from_take_while _ kind (YieldsList-at c.take_while.ensures.source (YieldsList-from_slice x.text.now cc)) c.take_while.ensures.closure c.take_while.ensures.done (λ x b q k. search (rules, tests)))
    ∙ (length-prefix_len kind x.text.now ∙ prefix_is kind x.text.now)
