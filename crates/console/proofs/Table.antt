-- The console answers by each sentence of `Table`.
use Prim.Native.Nat.{ℕ, ◌<◌}
use mathlib.Core.Path.{◌≡◌, refl, ap, ◌∙◌}
use mathlib.Core.Logic.{◌⊎◌, ⊎_elim}
use mathlib.Core.Bool.{Bool, true, false, cond, ◌&&◌}
use mathlib.Core.List.{List}
use native.Mathlib.Omega.{arith}
use borrow.Author.Tests.{ne_eqb}
use lib.Dec.{ltb, eqb}
use Rattle.answers.specs.Refusal.{number_in}
use Rattle.commands.specs.Line.{read_of, argument_of, verb}
use Rattle.commands.specs.Refused.{RefusedBy, by_31, by_32, by_33, by_34, by_35_missing, by_35_present}
use Rattle.commands.proofs.Accepted.{accepted-lines}
use Rattle.commands.proofs.Refused.{refusals}
use Rattle.hostlists.specs.HostList.{host_count}
use Rattle.hostlists.specs.HostLists.{ListText}
use Rattle.rangelists.specs.RangeText.{has_malformed}
use Rattle.rangelists.specs.MalformedRanges.{HasMalformed}
use Rattle.console.specs.declared.state.Console.{Console}
use Rattle.console.specs.declared.state.Endpoint.TheVariants.{Listening, Connecting}
use Rattle.verdicts.specs.declared.verdict.Verdict.TheVariants.{Guess, Result, Suspect, Broken}
use Rattle.console.specs.Console.{Event, line, ending}
use Rattle.console.specs.Rows.{MODE, PASV, PORT, REST, SPAS, SPOR, Row, mode_e, mode_other, too_early, pasv, spas, port, port_refused, spor, spor_refused, stor, stor_refused, retr, retr_refused, rest, rest_refused, sbuf_opts, line_refused, argument_refused, while_running, end_result, end_suspect, end_broken, end_guess, end_of_none, outcome, is_e, refused_row, command_row, end_row, row_of}
use Rattle.console.specs.Table.{Command, Asks, IsE, IsHostPort, Table}
use Rattle.console.specs.Sessions.{Answered}
use Rattle.console.proofs.Rows.{first, second, and-true, and_left, and_right, by_mode, by-pasv, by-spas, by-port, by-spor, by-stor, by-retr, by-rest, by-sbuf-opts}
use Rattle.console.proofs.LineRows.{row-refused, row-running, row-command}
use Rattle.console.proofs.Conditions.{Reflects, is_true, is_false, tests-e, tests-host-port, tests-list, tests-malformed, tests-listening, tests-connecting}

-- ---- the row of a command, and of a line that is refused

above-0 : (l : List ℕ) (k : ℕ) → RefusedBy l k → 0 < k
above-0 l k (by_31 _) = omega arith
above-0 l k (by_32 _ _) = omega arith
above-0 l k (by_33 _ _ _ _ _ _) = omega arith
above-0 l k (by_34 _ _ _ _ _) = omega arith
above-0 l k (by_35_missing _ _ _ _ _ _ _ _ _) = omega arith
above-0 l k (by_35_present _ _ _ _ _ _ _ _ _ _) = omega arith

module _ (s : Console) (l : List ℕ) where
  module _ (v : ℕ) (text : List ℕ) (c : Command l v text) where
    reads : (number_in (read_of l) ≡ 0) × (verb (read_of l) ≡ v) × (argument_of (read_of l) l ≡ text)
    reads = accepted-lines.command_line_accepted l c.0 text v c.1 c.2

    pub running-row : s.running ≡ true → row_of s (line l) ≡ while_running
    unfolding row_of
    running-row = row-running s l reads.0

    pub command-row : s.running ≡ false → row_of s (line l) ≡ command_row s v text
    unfolding row_of
    command-row h = row-command s l reads.0 h ∙ ap (λ w. command_row s w (argument_of (read_of l) l)) reads.1 ∙ ap (command_row s v) reads.2

  pub refused-row : (k : ℕ) → RefusedBy l k → row_of s (line l) ≡ refused_row k
  unfolding row_of
  refused-row k r = let n = (refusals.refused_only l k r).0 in row-refused s l (omega (arith, n, above-0 l k r)) ∙ ap refused_row n

-- ---- the sentences

answered : (s : Console) (e : Event) (r : Row) → row_of s e ≡ r → Answered s e r (outcome r s)
answered s e r h = (h, ap (λ w. outcome w s) h)

module _ (s : Console) (l text : List ℕ) where
  -- a command's row by its verb, where no transfer runs
  asks : (v : ℕ) (r : Row) → Asks s l v text → command_row s v text ≡ r → Answered s (line l) r (outcome r s)
  asks v r a e = answered s (line l) r (command-row s l v text a.1 a.0 ∙ e)

  module _ (v : ℕ) (a : Asks s l v text) where
    too-early-is : (v ≡ SPAS) ⊎ (v ≡ SPOR) → s.extended ≡ false → Answered s (line l) too_early (outcome too_early s)
    too-early-is w h =
        asks v too_early a
        (⊎_elim (λ e. by-spas s v text e ∙ second s.extended spas too_early h) (λ e. by-spor s v text e ∙ second s.extended _ too_early h) w)

    -- STOR and ESTO, RETR and ERET, whose endpoint is at hand or not
    module _ (P : Type 0) (b : Bool) (t : Reflects P b) (x y : Row) (e : command_row s v text ≡ cond (s.extended && b) x y) where
      starts : s.extended ≡ true → P → Answered s (line l) x (outcome x s)
      starts m p = asks v x a (e ∙ first (s.extended && b) x y (and-true s.extended b m (is_true P b t p)))

      not-starts : (s.extended ≡ false) ⊎ (P → ⊥) → Answered s (line l) y (outcome y s)
      not-starts h = asks v y a (e ∙ second (s.extended && b) x y (⊎_elim (and_left s.extended b) (λ n. and_right s.extended b (is_false P b t n)) h))

pub sentences : Table Answered
unfolding row_of
sentences =
    record {
      mode_e_gets_200 = λ s l text a p. asks s l text MODE mode_e a (by_mode s MODE text refl ∙ first (is_e text) mode_e mode_other (is_true (IsE text) (is_e text) (tests-e text) p));
      other_mode_gets_504 = λ s l text a n. asks s l text MODE mode_other a (by_mode s MODE text refl ∙ second (is_e text) mode_e mode_other (is_false (IsE text) (is_e text) (tests-e text) n));
      too_early_gets_503 = λ s l text v a w h. too-early-is s l text v a w h;
      pasv_gets_227 = λ s l text a. asks s l text PASV pasv a (by-pasv s PASV text refl);
      spas_gets_229 = λ s l text a h. asks s l text SPAS spas a (by-spas s SPAS text refl ∙ first s.extended spas too_early h);
      port_gets_200 = λ s l text a h.
          asks s l text PORT port a (by-port s PORT text refl ∙ first (eqb (host_count text) 1) port port_refused (is_true (IsHostPort text) _ (tests-host-port text) h));
      spor_gets_200 = λ s l text a m h.
          asks s l text SPOR spor a
          (by-spor s SPOR text refl ∙ first s.extended _ too_early m ∙ first (ltb 0 (host_count text)) spor spor_refused (is_true (ListText text) _ (tests-list text) h));
      port_gets_501 = λ s l text a n.
          asks s l text PORT port_refused a (by-port s PORT text refl ∙ second (eqb (host_count text) 1) port port_refused (is_false (IsHostPort text) _ (tests-host-port text) n));
      spor_gets_501 = λ s l text a m n.
          asks s l text SPOR spor_refused a
          (by-spor s SPOR text refl ∙ first s.extended _ too_early m ∙ second (ltb 0 (host_count text)) spor spor_refused (is_false (ListText text) _ (tests-list text) n));
      stor_gets_150 = λ s l text v a w. starts s l text v a (s.endpoint ≡ Listening) _ (tests-listening s.endpoint) stor stor_refused (by-stor s v text w);
      stor_gets_503 = λ s l text v a w. not-starts s l text v a (s.endpoint ≡ Listening) _ (tests-listening s.endpoint) stor stor_refused (by-stor s v text w);
      retr_gets_150 = λ s l text v a w. starts s l text v a (s.endpoint ≡ Connecting) _ (tests-connecting s.endpoint) retr retr_refused (by-retr s v text w);
      retr_gets_503 = λ s l text v a w. not-starts s l text v a (s.endpoint ≡ Connecting) _ (tests-connecting s.endpoint) retr retr_refused (by-retr s v text w);
      rest_gets_350 = λ s l text a n.
          asks s l text REST rest a (by-rest s REST text refl ∙ second (has_malformed text) rest_refused rest (is_false (HasMalformed text) _ (tests-malformed text) n));
      rest_gets_501 = λ s l text a p.
          asks s l text REST rest_refused a (by-rest s REST text refl ∙ first (has_malformed text) rest_refused rest (is_true (HasMalformed text) _ (tests-malformed text) p));
      sbuf_opts_get_200 = λ s l text v a w. asks s l text v sbuf_opts a (by-sbuf-opts s v text w);
      refused_line_gets_500 = λ s l k r hi.
          answered s (line l) line_refused (refused-row s l k r ∙ second (eqb k 35) argument_refused line_refused (ne_eqb k 35 (λ e. omega arith)));
      refused_argument_gets_501 = λ s l r. answered s (line l) argument_refused (refused-row s l 35 r);
      running_gets_503 = λ s l text v h c. answered s (line l) while_running (running-row s l v text c h);
      result_gets_226 = λ s h. answered s (ending Result) end_result (first s.running end_result end_of_none h);
      suspect_gets_226 = λ s h. answered s (ending Suspect) end_suspect (first s.running end_suspect end_of_none h);
      broken_gets_426 = λ s h. answered s (ending Broken) end_broken (first s.running end_broken end_of_none h);
      guess_gets_0 = λ s h. answered s (ending Guess) end_guess (first s.running end_guess end_of_none h);
      end_of_none_gets_0 = λ s v h. answered s (ending v) end_of_none (second s.running (end_row v) end_of_none h);
    }
