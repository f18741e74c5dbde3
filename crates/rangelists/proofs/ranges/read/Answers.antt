-- `ranges::read`.
use Prim.Native.Nat.{◌%◌}
use mathlib.Core.Path.{◌≡◌, sym, ap, ◌∙◌}
use mathlib.Core.Bool.{false}
use lib.ListN.{length, replicate}
use Rattle.answers.specs.Refusal.{refusal_number}
use Rattle.ledger.specs.Ledger.{length_wrong, capacity}
use Rattle.ledger.proofs.LedgerSizes.{length-fits}
use Rattle.rangelists.specs.RangeText.{ranges_of, Represents}
use Rattle.rangelists.proofs.RangeReading.{reads-53, reads-err, reads-ok}
use Rattle.rangelists.proofs.RangeMerging.{cleared-obeys, cleared-merged, obeyed-lent}
use Rattle.rangelists.proofs.ranges.read.Goals as goal
use Rattle.rangelists.proofs.ranges.read.Goals.{After-clear, After-join_list-answer, Else-length_wrong}

right : (c : Else-length_wrong) → length_wrong c.args.ledger.now ≡ false
right c = sym c.length_wrong.ensures ∙ c.if-length_wrong.false

even : (c : Else-length_wrong) → length c.args.ledger.now % 2 ≡ 0
even c = (length-fits c.args.ledger.now (right c)).0

zeros : (c : After-clear) → c.clear.new.entries ≡ replicate (length c.args.ledger.now) 0
zeros c = c.clear.ensures

-- the list was joined to a ledger of zeros
said : (c : After-join_list-answer) → let x = c.args in
    Represents (ranges_of (capacity x.ledger.now) x.text.now) (refusal_number c.join_list-answer.result) c.join_list-answer.new.ledger
said c =
    let x = c.args in
    let h = goal.at.After-join_list-answer c in
    rw (cleared-merged x.ledger.now c.clear.new.entries (even h.Else-length_wrong) (zeros h.After-clear) x.text.now) at c.join_list-answer.ensures

kept : (c : After-join_list-answer) → length c.join_list-answer.new.ledger ≡ length c.args.ledger.now
kept c = c.join_list-answer.auto.ledger ∙ c.clear.auto.entries

pub returns-then-length_wrong : goal.returns-then-length_wrong
returns-then-length_wrong c =
    let x = c.args in
    reads-53 x.text.now x.ledger.now (sym c.length_wrong.ensures ∙ c.if-length_wrong.true)

pub join_list-answer-requires : goal.join_list-answer-requires
join_list-answer-requires c =
    let h = goal.at.join_list-answer-requires c in
    cleared-obeys c.args.ledger.now c.clear.new.entries (even h.Else-length_wrong) (zeros h.After-clear)

pub returns-then-is_err : goal.returns-then-is_err
returns-then-is_err c =
    let x = c.args in
    let h = goal.at.returns-then-is_err c in
    let t = reads-err x.text.now x.ledger.now (right h.Else-length_wrong) c.join_list-answer.result _ (said h.After-join_list-answer) (sym c.is_err.ensures.value ∙ c.if-is_err.true) in
    (t.0, c.clear-then-is_err.ensures ∙ ap (λ n. replicate n 0) (kept h.After-join_list-answer) ∙ t.1)

pub returns-else-is_err : goal.returns-else-is_err
returns-else-is_err c =
    let x = c.args in
    let h = goal.at.returns-else-is_err c in
    let m = reads-ok x.text.now x.ledger.now (right h.Else-length_wrong) c.join_list-answer.result _ (said h.After-join_list-answer) (sym c.is_err.ensures.value ∙ c.if-is_err.false) in
    (m.0, obeyed-lent x.ledger.now c.join_list-answer.new.ledger (kept h.After-join_list-answer) m.1 ∙ m.2)
