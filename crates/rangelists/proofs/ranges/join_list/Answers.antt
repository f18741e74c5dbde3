-- `ranges::join_list`: what is left of the list, joined to the ledger as it is, is the whole list joined to the ledger at entry.
use Prim.Native.Nat.{◌≤◌}
use mathlib.Core.Path.{refl, sym, ap, ◌∙◌}
use mathlib.Core.Bool.{not}
use native.Mathlib.Omega.{arith}
use denote.Param.Always.{mut_total}
use lib.ListN.{length, drop_of_length-le}
use Rattle.std.proofs.Common.{rules, tests}
use Rattle.std.proofs.lemmas.Iterator.Consumers.{YieldsList-turn, YieldsList-end}
use Rattle.std.proofs.lemmas.Iterator.Splits.{YieldsList-from_slice_split}
use Rattle.std.proofs.lemmas.List.{length_push}
use Rattle.std.proofs.lemmas.Result.{err_from_is_err_and}
use Rattle.texts.specs.Text.{is_not_comma}
use Rattle.answers.specs.Refusal.{refusal_number}
use Rattle.answers.proofs.Numbers.{above_0}
use Rattle.ledger.specs.Ledger.{pairs_of, capacity}
use Rattle.rangelists.specs.RangeText.{merged, merge_range, range_of, merged_from, Represents}
use Rattle.rangelists.proofs.PartsByComma.{pieces, parts-are, next_is}
use Rattle.rangelists.proofs.RangeMerging.{represents-stopped, represents-done, walk-stop, walk-next, walk-end}
use Rattle.rangelists.proofs.ranges.join_list.Goals as goal
use Rattle.rangelists.proofs.ranges.join_list.Goals.{After-join_text}

-- the next text was joined to the ledger
said : (c : After-join_text) → Represents (merge_range (capacity c.args.ledger.now) (pairs_of c.loop-part.ledger) (range_of c.in-Some.part.now) merged) (refusal_number c.join_text.result) c.join_text.new.ledger
said c = rw c.loop-part.auto.ledger at c.join_text.ensures

pub loop-part-init : goal.loop-part-init
loop-part-init c = (c.requires, rw (parts-are c.args.text.now), mut_total _ _ (λ s a. tt), tt)

pub join_text-requires : goal.join_text-requires
join_text-requires c = c.loop-part.invariant.0

pub returns-in_err-join_text : goal.returns-in_err-join_text
returns-in_err-join_text c =
    let t = YieldsList-turn (YieldsList-from_slice_split _ (λ b. not (is_not_comma b)) c.args.text.now (cc) (cc) (cc) (λ x b q k. search (rules, tests))) c.loop-part.yielded _ c.loop-part.yielded_by _ _ c.in-Some.part c.in-Some.is c.next.ensures.steps in
    let p = err_from_is_err_and c.from_residual.result c.from_residual.ensures.1 in
    let q = rw c.in_err-join_text.was at (said (goal.at.returns-in_err-join_text c).After-join_text) in
    let some = above_0 c.in_err-join_text.field-0.0 in
    rw (p.1, p.2) (represents-stopped _ _ _ some (sym c.loop-part.invariant.1 ∙ ap (merged_from _ _) (next_is _ _ _ t) ∙ walk-stop _ _ _ _ _ _ q some))

pub loop-part-preserved : goal.loop-part-preserved
loop-part-preserved c =
    let t = YieldsList-turn (YieldsList-from_slice_split _ (λ b. not (is_not_comma b)) c.args.text.now (cc) (cc) (cc) (λ x b q k. search (rules, tests))) c.loop-part.yielded _ c.loop-part.yielded_by _ _ c.in-Some.part c.in-Some.is c.next.ensures.steps in
    let q = rw c.in_ok-join_text.was at (said (goal.at.loop-part-preserved c).After-join_text) in (
      (q.done refl).0,
      rw (length_push c.loop-part.yielded c.in-Some.part) (sym (ap (merged_from _ _) (next_is _ _ _ t) ∙ walk-next _ _ _ _ _ _ q refl) ∙ c.loop-part.invariant.1),
      search rules,
      search rules,
    )

pub returns : goal.returns
returns c =
    let t = YieldsList-end (YieldsList-from_slice_split _ (λ b. not (is_not_comma b)) c.args.text.now (cc) (cc) (cc) (λ x b q k. search (rules, tests))) c.loop-part.yielded _ c.loop-part.yielded_by _ _ c.in-None.is c.next.ensures.steps in
    let past : length (pieces c.args.text.now) ≤ length c.loop-part.yielded = omega (arith, t.1) in
    let over = drop_of_length-le (pieces c.args.text.now) past in
    represents-done _ _ c.loop-part.invariant.0 (sym c.loop-part.invariant.1 ∙ ap (merged_from _ _) over ∙ walk-end _ _)
