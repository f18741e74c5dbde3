-- `record::ends_by`.
use Prim.Native.Nat.{◌/◌, ◌<◌}
use mathlib.Core.Path.{◌≡◌, sym, ap, ◌∙◌}
use native.Mathlib.Omega.{arith}
use borrow.Author.Tests.{le-leb}
use lib.Dec.{leb}
use lib.ListN.{length}
use Rattle.savedrecords.specs.Record.{pairs_in, last_end}
use Rattle.savedrecords.proofs.RecordPairs.{last_end_back}
use Rattle.savedrecords.proofs.record.ends_by.Goals as goal

pub returns-in-Some : goal.returns-in-Some
returns-in-Some c =
    let x = c.args in
    let part = c.pair_part.result.now in
    let steps = c.in-Some.ensures.steps.2 in
    let whole = sym c.chunks_exact.ensures.rest ∙ steps.1 in
    let sixteen = steps.2 ∙ c.chunks_exact.ensures.size in
    let after = rw (c.chunks_exact.ensures.rest, c.chunks_exact.ensures.size) at steps.3 in
    let last = rw c.pair_part.ensures at (last_end_back x.kind.second part _ c.in-Some.last.now steps.0 whole sixteen after) in
    (rw (c.number_at.ensures, c.number_at-in-Some.ensures) at c.ends_by.ensures) ∙ ap (λ k. leb k x.limit) (sym last)

pub returns-in-None : goal.returns-in-None
unfolding pairs_in last_end
returns-in-None c =
    let x = c.args in
    let part = c.pair_part.result.now in
    let few : length part < 16 = rw (c.chunks_exact.ensures.rest, c.chunks_exact.ensures.size) at c.in-None.ensures.steps.2.0 in
    let none : length part / 16 ≡ 0 = omega arith in
    let z = rw c.pair_part.ensures at none in
    rw z (sym (le-leb 0 x.limit (omega arith)))
