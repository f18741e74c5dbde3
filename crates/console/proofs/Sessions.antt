-- The console keeps to the table over any sequence: `Sessions` holds.
use Prim.Native.Nat.{ℕ, ◌-◌, ◌≤◌}
use mathlib.Core.Path.{◌≡◌, refl, ap, ◌∙◌}
use mathlib.Core.Logic.{inl, inr}
use mathlib.Core.Bool.{Bool, true, false, cond}
use mathlib.Core.List.{List, [], ◌∷◌, ◌++◌, map}
use native.Mathlib.Omega.{arith}
use lib.Dec.{eqb}
use lib.ListN.{get_or}
use Rattle.std.specs.Prelude.{Some}
use Rattle.commands.specs.Refused.{RefusedBy}
use Rattle.commands.proofs.VerbNames.{verb-names}
use Rattle.commands.proofs.WrittenLines.{written-lines}
use Rattle.rangelists.specs.RangeText.{has_malformed}
use Rattle.rangelists.specs.MalformedRanges.{HasMalformed}
use Rattle.console.specs.declared.state.Console.{Console}
use Rattle.console.specs.declared.state.Answer.{Answer}
use Rattle.console.specs.Console.{Event, line, ending, code_in}
use Rattle.console.specs.Rows.{MODE, PASV, PORT, REST, RETR, STOR, SPAS, SPOR, ERET, ESTO, SBUF, OPTS, Row, mode_e, mode_other, too_early, pasv, spas, port, port_refused, spor, spor_refused, stor, stor_refused, retr, retr_refused, rest, rest_refused, sbuf_opts, line_refused, argument_refused, while_running, end_result, end_suspect, end_broken, end_guess, end_of_none, outcome, refused_row, row_of, answer_to}
use Rattle.console.specs.Table.{Asks, answer, Table}
use Rattle.console.specs.Sessions.{answers_from, after, IsRefusal, Sessions}
use Rattle.console.proofs.Conditions.{Reflects, holds, fails, tests-malformed}
use Rattle.console.proofs.Table.{sentences, refused-row}
use Rattle.console.proofs.EveryEvent.{every-line, every-ending}
use Rattle.console.proofs.RestRanges.{argument-ranges, reads}
use Rattle.console.proofs.Reached.{reached, reached_only}
use Rattle.console.proofs.RowsMet.{met}

-- ---- whoever keeps to the table

module _ (respond : Console → Event → Answer) (t : Table (λ s e r a. respond s e ≡ a)) where
  same : (s : Console) (e : Event) → respond s e ≡ answer_to s e
  same s (line l) = every-line _ t s l
  same s (ending v) = every-ending _ t s v

  same_from : (s : Console) (es : List Event) → answers_from respond s es ≡ answers_from answer_to s es
  unfolding answers_from
  same_from s [] = refl
  same_from s (e ∷ es) = rw (same s e) (ap (λ xs. answer_to s e ∷ xs) (same_from (answer_to s e).console es))

in_turn : (s : Console) (es fs : List Event) → answers_from answer_to s (es ++ fs) ≡ answers_from answer_to s es ++ answers_from answer_to (after s es) fs
unfolding answers_from after
in_turn s [] fs = refl
in_turn s (e ∷ es) fs = ap (λ xs. answer_to s e ∷ xs) (in_turn (answer_to s e).console es fs)

-- ---- REST

rest-answer : (s : Console) (l text : List ℕ) → Asks s l REST text → (b : Bool) → Reflects (HasMalformed text) b → answer_to s (line l) ≡ answer s (Some (cond b 501 350)) false
rest-answer s l text a true (holds p) = (sentences.rest_gets_501 s l text a p).1
rest-answer s l text a false (fails n) = (sentences.rest_gets_350 s l text a n).1

-- ---- refused commands

refuses : (r : Row) (s : Console) → 500 ≤ code_in (outcome r s).code → (outcome r s ≡ answer s (outcome r s).code false) × IsRefusal (code_in (outcome r s).code)
refuses mode_e s h = absurd (omega arith)
refuses mode_other s h = (refl, inr (inr (inr refl)))
refuses too_early s h = (refl, inr (inr (inl refl)))
refuses pasv s h = absurd (omega arith)
refuses spas s h = absurd (omega arith)
refuses port s h = absurd (omega arith)
refuses port_refused s h = (refl, inr (inl refl))
refuses spor s h = absurd (omega arith)
refuses spor_refused s h = (refl, inr (inl refl))
refuses stor s h = absurd (omega arith)
refuses stor_refused s h = (refl, inr (inr (inl refl)))
refuses retr s h = absurd (omega arith)
refuses retr_refused s h = (refl, inr (inr (inl refl)))
refuses rest s h = absurd (omega arith)
refuses rest_refused s h = (refl, inr (inl refl))
refuses sbuf_opts s h = absurd (omega arith)
refuses line_refused s h = (refl, inl refl)
refuses argument_refused s h = (refl, inr (inl refl))
refuses while_running s h = (refl, inr (inr (inl refl)))
refuses end_result s h = absurd (omega arith)
refuses end_suspect s h = absurd (omega arith)
refuses end_broken s h = absurd (omega arith)
refuses end_guess s h = absurd (omega arith)
refuses end_of_none s h = absurd (omega arith)

-- a refused line's answer
refused-code : (k : ℕ) (s : Console) → outcome (refused_row k) s ≡ answer s (Some (cond (eqb k 35) 501 500)) false
refused-code k s = go (eqb k 35)
  where
    go : (b : Bool) → outcome (cond b argument_refused line_refused) s ≡ answer s (Some (cond b 501 500)) false
    go true = refl
    go false = refl

answer-refused : (s : Console) (l : List ℕ) (k : ℕ) → RefusedBy l k → answer_to s (line l) ≡ outcome (refused_row k) s
answer-refused s l k r = ap (λ w. outcome w s) (refused-row s l k r)

-- ---- mode E

-- no row takes it back
keeps-mode-e : (r : Row) (s : Console) → s.extended ≡ true → (outcome r s).console.extended ≡ true
keeps-mode-e mode_e s h = refl
keeps-mode-e mode_other s h = h
keeps-mode-e too_early s h = h
keeps-mode-e pasv s h = h
keeps-mode-e spas s h = h
keeps-mode-e port s h = h
keeps-mode-e port_refused s h = h
keeps-mode-e spor s h = h
keeps-mode-e spor_refused s h = h
keeps-mode-e stor s h = h
keeps-mode-e stor_refused s h = h
keeps-mode-e retr s h = h
keeps-mode-e retr_refused s h = h
keeps-mode-e rest s h = h
keeps-mode-e rest_refused s h = h
keeps-mode-e sbuf_opts s h = h
keeps-mode-e line_refused s h = h
keeps-mode-e argument_refused s h = h
keeps-mode-e while_running s h = h
keeps-mode-e end_result s h = h
keeps-mode-e end_suspect s h = h
keeps-mode-e end_broken s h = h
keeps-mode-e end_guess s h = h
keeps-mode-e end_of_none s h = h

mode_e_stays : (s : Console) (es : List Event) → s.extended ≡ true → (after s es).extended ≡ true
unfolding after
mode_e_stays s [] h = h
mode_e_stays s (e ∷ es) h = mode_e_stays (answer_to s e).console es (keeps-mode-e (row_of s e) s h)

pub sessions : Sessions
unfolding answers_from
sessions =
    record {
      table = sentences;
      line_is = every-line;
      end_is = every-ending;
      runs = same_from;
      one_event = λ s e. refl;
      in_turn = in_turn;
      changes_nothing = λ s l h. (refuses (row_of s (line l)) s h).0;
      refused_with = λ s l h. (refuses (row_of s (line l)) s h).1;
      judged_first = λ s l k r. answer-refused s l k r ∙ refused-code k s;
      mode_e_stays = mode_e_stays;
      ranges_are = argument-ranges;
      rest_is_51 = λ s l text ledger a even few lent.
          let c = a.1 in
          (reads text ledger (written-lines.longest_argument l c.0 text REST c.1 c.2) even few lent, rest-answer s l text a (has_malformed text) (tests-malformed text));
      reached = reached;
      reached_only = reached_only;
      met = met;
      verbs_are = ap (λ vs. map (λ v. get_or vs (v - 1) []) (MODE ∷ PASV ∷ PORT ∷ REST ∷ RETR ∷ STOR ∷ SPAS ∷ SPOR ∷ ERET ∷ ESTO ∷ SBUF ∷ OPTS ∷ [])) verb-names.twelve;
    }
