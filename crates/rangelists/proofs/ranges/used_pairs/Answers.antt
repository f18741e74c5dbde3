-- `ranges::used_pairs`: as many as there are before the place that `position` finds.
use mathlib.Core.Path.{◌≡◌, refl}
use mathlib.Core.Bool.{cond}
use lib.Dec.{ltb}
use lib.ListN.{length}
use Rattle.std.proofs.Common.{rules, tests}
use Rattle.std.proofs.lemmas.Iterator.{YieldsList-from_slice}
use Rattle.std.proofs.lemmas.Iterator.Search.{position_from_yields_List}
use Rattle.std.specs.List.{position_or_len}
use Rattle.std.specs.Prelude.{Some, None}
use Rattle.rangelists.proofs.UsedPairs.{is_unused, used_is, take-found}
use Rattle.rangelists.proofs.ranges.used_pairs.Goals as goal

pub returns : goal.returns
returns c =
    let pairs = c.as_chunks.result.0.now in
    let n = position_or_len is_unused pairs in
    let found : c.position.result ≡ cond (ltb n (length pairs)) (Some n) None =
    position_from_yields_List is_unused _ _ c.position.result c.position.ensures.ran (YieldsList-from_slice pairs cc) (λ x b q k. search (rules, tests))
    in
    rw (c.unwrap_or-used.ensures, found, take-found n pairs, c.as_chunks.ensures.front) (used_is _ c.args.ledger.now refl)
