-- `line::read_text`.
use Prim.Native.Nat.{◌+◌, ◌<◌}
use mathlib.Core.Path.{◌≡◌, sym, ap, ◌∙◌}
use mathlib.Core.Bool.{true}
use native.Mathlib.Omega.{arith}
use lib.Dec.{eqb}
use lib.ListN.{get_or}
use Rattle.texts.specs.Text.{is_letter}
use Rattle.texts.proofs.Texts.{leading_le}
use Rattle.commands.specs.Line.{number_of, takes_no_argument, verb_of, after_verb, argument_start}
use Rattle.commands.proofs.LineAnswers.{one_to_twelve}
use Rattle.commands.proofs.Lines.{argument-within, text-unlisted, text-not-ended, text-wrong, text-command, accepted-none, accepted-some}
use Rattle.commands.proofs.line.read_text.Goals as goal
use Rattle.commands.proofs.line.read_text.Goals.{After-leading, After-takes_no_argument, After-verb_of, Else-not-ends_word, In-Some, then-takes_no_argument, else-takes_no_argument}

rest_is : (c : After-verb_of) → c.split_at.result.1.now ≡ after_verb c.args.text.now
unfolding after_verb
rest_is c = c.split_at.ensures.back ∙ rw c.leading-end.ensures

verb_is : (c : In-Some) → number_of c.in-Some.verb ≡ verb_of c.args.text.now
unfolding verb_of
verb_is c = c.in-Some.ensures ∙ rw (c.split_at.ensures.front, c.leading-end.ensures)

listed : (c : In-Some) → 0 < verb_of c.args.text.now
listed c = omega (arith, verb_is c, one_to_twelve c.in-Some.verb)

ended : (c : Else-not-ends_word) → eqb (get_or (after_verb c.args.text.now) 0 32) 32 ≡ true
ended c = rw (← rest_is (goal.at.Else-not-ends_word c).After-verb_of) (sym c.if-not-ends_word.ensures)

from_is : (c : After-leading) → c.leading-end.result + c.leading.result ≡ argument_start c.args.text.now
unfolding argument_start
from_is c = rw (c.leading-end.ensures, c.leading.ensures, rest_is (goal.at.After-leading c).After-verb_of)

takes_is : (c : After-takes_no_argument) → c.takes_no_argument.result ≡ takes_no_argument (verb_of c.args.text.now)
takes_is c = c.takes_no_argument.ensures ∙ ap takes_no_argument (verb_is (goal.at.After-takes_no_argument c).In-Some)

pub split_at-requires : goal.split_at-requires
split_at-requires c = rw c.leading-end.ensures (leading_le is_letter c.args.text.now)

pub returns-in_default : goal.returns-in_default
unfolding verb_of
returns-in_default c = sym (text-unlisted c.args.text.now (rw (c.split_at.ensures.front, c.leading-end.ensures) at (sym c.in_default.ensures)))

pub returns-then-not-ends_word : goal.returns-then-not-ends_word
returns-then-not-ends_word c =
    sym (text-not-ended c.args.text.now (rw (← rest_is (goal.at.returns-then-not-ends_word c).After-verb_of) (sym c.if-not-ends_word.ensures)))

pub overflow_add-from : goal.overflow_add-from
overflow_add-from c = omega (arith, from_is c, argument-within c.args.text.now)

pub returns-then-not-accepted : goal.returns-then-not-accepted
returns-then-not-accepted c =
    let t = c.args.text.now in
    let p = goal.at.returns-then-not-accepted c in
    let takes = takes_is p.After-takes_no_argument in
    let rest = rest_is p.After-verb_of in
    let from = from_is p.After-leading in
    sym (text-wrong t (listed p.In-Some) (ended p.Else-not-ends_word) (elim c.if-takes_no_argument.branch [
      | then-takes_no_argument w ↦ accepted-none t (sym takes ∙ w.if-takes_no_argument.true) ∙ rw (← rest) (sym w.is_empty-accepted.ensures ∙ sym w.accepted-is ∙ c.if-not-accepted.true)
      | else-takes_no_argument w ↦ accepted-some t (sym takes ∙ w.if-takes_no_argument.false) ∙ rw (← from) (sym w.accepted-is ∙ c.if-not-accepted.true)
    ]))

pub returns : goal.returns
returns c =
    let t = c.args.text.now in
    let p = goal.at.returns c in
    let takes = takes_is p.After-takes_no_argument in
    let rest = rest_is p.After-verb_of in
    let from = from_is p.After-leading in
    rw (verb_is p.In-Some, from) (sym (text-command t (listed p.In-Some) (ended p.Else-not-ends_word) (elim c.if-takes_no_argument.branch [
      | then-takes_no_argument w ↦ accepted-none t (sym takes ∙ w.if-takes_no_argument.true) ∙ rw (← rest) (sym w.is_empty-accepted.ensures ∙ sym w.accepted-is ∙ c.if-not-accepted.false)
      | else-takes_no_argument w ↦ accepted-some t (sym takes ∙ w.if-takes_no_argument.false) ∙ rw (← from) (sym w.accepted-is ∙ c.if-not-accepted.false)
    ])))
