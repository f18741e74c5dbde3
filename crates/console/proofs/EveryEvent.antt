-- Every line and every ending falls under a sentence of the table, in every state.
use Prim.Native.Nat.{ℕ, ◌≤◌, ◌<◌}
use mathlib.Core.Path.{◌≡◌, refl}
use mathlib.Core.Logic.{◌⊎◌, inl, inr}
use mathlib.Core.Bool.{Bool, true, false, cond, ◌&&◌}
use mathlib.Core.List.{List}
use native.Mathlib.Omega.{arith}
use native.Mathlib.Decide.{ℕ_discrete}
use Rattle.answers.specs.Refusal.{number_in}
use Rattle.commands.specs.Line.{read_of, argument_of, verb}
use Rattle.commands.specs.Refused.{RefusedBy, by_31, by_32, by_33, by_34, by_35_missing, by_35_present}
use Rattle.commands.proofs.Accepted.{accepted-lines}
use Rattle.commands.proofs.Refused.{refusals}
use Rattle.hostlists.specs.HostLists.{ListText}
use Rattle.rangelists.specs.MalformedRanges.{HasMalformed}
use Rattle.verdicts.specs.declared.verdict.Verdict.{Verdict}
use Rattle.verdicts.specs.declared.verdict.Verdict.TheVariants.{Guess, Result, Suspect, Broken}
use Rattle.console.specs.declared.state.Console.{Console}
use Rattle.console.specs.declared.state.Endpoint.TheVariants.{Listening, Connecting}
use Rattle.console.specs.declared.state.Answer.{Answer}
use Rattle.console.specs.Console.{Event, line, ending}
use Rattle.console.specs.Rows.{MODE, PASV, PORT, REST, RETR, STOR, SPAS, SPOR, ERET, ESTO, SBUF, OPTS, Row, mode_e, mode_other, too_early, spas, port, port_refused, spor, spor_refused, stor, stor_refused, retr, retr_refused, rest, rest_refused, while_running, end_of_none, outcome, mode_row, spas_row, port_row, spor_row, rest_row, refused_row, command_row, end_row, row_of, answer_to}
use Rattle.console.specs.Table.{Command, IsE, IsHostPort, Table}
use Rattle.console.proofs.Rows.{by_mode, by-pasv, by-spas, by-port, by-spor, by-stor, by-retr, by-rest, by-sbuf-opts}
use Rattle.console.proofs.Conditions.{Reflects, holds, fails, tests-e, tests-host-port, tests-list, tests-malformed, tests-listening, tests-connecting}
use Rattle.console.proofs.Table.{running-row, command-row, refused-row}

-- a number from k on is k or comes after it
at_or_after : {R : Type 0} (v k : ℕ) → k ≤ v → (v ≡ k → R) → (k < v → R) → R
at_or_after {R = R} v k h f g = go (ℕ_discrete v k)
  where
    go : Dec (v ≡ k) → R
    go (yes e) = f e
    go (no n) = g (omega arith)

module _ (Answers : Console → Event → Row → Answer → Type 0) (t : Table Answers) where
  -- the event gets what the row answers
  abbrev Gets : Console → Event → Row → Type 0
  Gets s e r = Answers s e r (outcome r s)

  by_row : (s : Console) (e : Event) (r : Row) → row_of s e ≡ r → Gets s e r → Answers s e (row_of s e) (answer_to s e)
  by_row s e r h a = rw h a

  -- one row of two, by a test
  chosen : (s : Console) (e : Event) (P : Type 0) (b : Bool) → Reflects P b → (x y : Row) → (P → Gets s e x) → ((P → ⊥) → Gets s e y) → Gets s e (cond b x y)
  chosen s e P true (holds p) x y f g = f p
  chosen s e P false (fails n) x y f g = g n

  -- ---- a command, where no transfer runs

  module _ (s : Console) (l text : List ℕ) (h : s.running ≡ false) where
    -- mode E is asked for or not
    by-mode-e : (x y : Row) → (s.extended ≡ true → Gets s (line l) x) → (s.extended ≡ false → Gets s (line l) y) → Gets s (line l) (cond s.extended x y)
    by-mode-e x y f g = go s.extended f g
      where
        go : (b : Bool) → (b ≡ true → Gets s (line l) x) → (b ≡ false → Gets s (line l) y) → Gets s (line l) (cond b x y)
        go true f g = f refl
        go false f g = g refl

    -- mode E is asked for and the endpoint is at hand, or not
    by_both : (P : Type 0) (b : Bool) → Reflects P b → (x y : Row) → (s.extended ≡ true → P → Gets s (line l) x)
        → ((s.extended ≡ false) ⊎ (P → ⊥) → Gets s (line l) y) → Gets s (line l) (cond (s.extended && b) x y)
    by_both P b k x y f g = go s.extended f g
      where
        go : (a : Bool) → (a ≡ true → P → Gets s (line l) x) → ((a ≡ false) ⊎ (P → ⊥) → Gets s (line l) y) → Gets s (line l) (cond (a && b) x y)
        go true f g = chosen s (line l) P b k x y (f refl) (λ n. g (inr n))
        go false f g = g (inl refl)

    of-mode : Command l MODE text → Gets s (line l) (mode_row text)
    of-mode c = chosen s (line l) (IsE text) _ (tests-e text) mode_e mode_other (t.mode_e_gets_200 s l text (h, c)) (t.other_mode_gets_504 s l text (h, c))

    of-spas : Command l SPAS text → Gets s (line l) (spas_row s)
    of-spas c = by-mode-e spas too_early (t.spas_gets_229 s l text (h, c)) (t.too_early_gets_503 s l text SPAS (h, c) (inl refl))

    of-port : Command l PORT text → Gets s (line l) (port_row text)
    of-port c = chosen s (line l) (IsHostPort text) _ (tests-host-port text) port port_refused (t.port_gets_200 s l text (h, c)) (t.port_gets_501 s l text (h, c))

    of-spor : Command l SPOR text → Gets s (line l) (spor_row s text)
    of-spor c =
        by-mode-e _ too_early
        (λ m. chosen s (line l) (ListText text) _ (tests-list text) spor spor_refused (t.spor_gets_200 s l text (h, c) m) (t.spor_gets_501 s l text (h, c) m))
        (t.too_early_gets_503 s l text SPOR (h, c) (inr refl))

    of-stor : (v : ℕ) → Command l v text → (v ≡ STOR) ⊎ (v ≡ ESTO) → Gets s (line l) (command_row s v text)
    of-stor v c w =
        rw (by-stor s v text w)
        (by_both (s.endpoint ≡ Listening) _ (tests-listening s.endpoint) stor stor_refused (t.stor_gets_150 s l text v (h, c) w) (t.stor_gets_503 s l text v (h, c) w))

    of-retr : (v : ℕ) → Command l v text → (v ≡ RETR) ⊎ (v ≡ ERET) → Gets s (line l) (command_row s v text)
    of-retr v c w =
        rw (by-retr s v text w)
        (by_both (s.endpoint ≡ Connecting) _ (tests-connecting s.endpoint) retr retr_refused (t.retr_gets_150 s l text v (h, c) w) (t.retr_gets_503 s l text v (h, c) w))

    of-rest : Command l REST text → Gets s (line l) (rest_row text)
    of-rest c = chosen s (line l) (HasMalformed text) _ (tests-malformed text) rest_refused rest (t.rest_gets_501 s l text (h, c)) (t.rest_gets_350 s l text (h, c))

    of-sbuf-opts : (v : ℕ) → Command l v text → (v ≡ SBUF) ⊎ (v ≡ OPTS) → Gets s (line l) (command_row s v text)
    of-sbuf-opts v c w = rw (by-sbuf-opts s v text w) (t.sbuf_opts_get_200 s l text v (h, c) w)

    of-command : (v : ℕ) → 0 < v → v ≤ 12 → Command l v text → Gets s (line l) (command_row s v text)
    of-command v lo hi c =
        at_or_after v MODE lo (λ e. rw (by_mode s v text e) (of-mode (rw e at c)))
        (λ b. at_or_after v PASV b (λ e. rw (by-pasv s v text e) (t.pasv_gets_227 s l text (h, rw e at c)))
        (λ b. at_or_after v PORT b (λ e. rw (by-port s v text e) (of-port (rw e at c)))
        (λ b. at_or_after v REST b (λ e. rw (by-rest s v text e) (of-rest (rw e at c)))
        (λ b. at_or_after v RETR b (λ e. of-retr v c (inl e))
        (λ b. at_or_after v STOR b (λ e. of-stor v c (inl e))
        (λ b. at_or_after v SPAS b (λ e. rw (by-spas s v text e) (of-spas (rw e at c)))
        (λ b. at_or_after v SPOR b (λ e. rw (by-spor s v text e) (of-spor (rw e at c)))
        (λ b. at_or_after v ERET b (λ e. of-retr v c (inr e))
        (λ b. at_or_after v ESTO b (λ e. of-stor v c (inr e))
        (λ b. at_or_after v SBUF b (λ e. of-sbuf-opts v c (inl e)) (λ b. of-sbuf-opts v c (inr (omega arith)))))))))))))

  -- ---- a line

  module _ (s : Console) (l : List ℕ) where
    of-refused : (k : ℕ) → RefusedBy l k → Gets s (line l) (refused_row k)
    of-refused k r = go k r r
      where
        go : (k : ℕ) → RefusedBy l k → RefusedBy l k → Gets s (line l) (refused_row k)
        go k (by_31 a) r = t.refused_line_gets_500 s l 31 r (omega arith)
        go k (by_32 a b) r = t.refused_line_gets_500 s l 32 r (omega arith)
        go k (by_33 a b c d e f) r = t.refused_line_gets_500 s l 33 r (omega arith)
        go k (by_34 a b c d e) r = t.refused_line_gets_500 s l 34 r (omega arith)
        go k (by_35_missing a b c d e f g h i) r = t.refused_argument_gets_501 s l r
        go k (by_35_present a b c d e f g h i j) r = t.refused_argument_gets_501 s l r

    of-accepted : number_in (read_of l) ≡ 0 → Answers s (line l) (row_of s (line l)) (answer_to s (line l))
    of-accepted e =
        let a = accepted-lines.accepted_is l e in
        let v = verb (read_of l) in
        let text = argument_of (read_of l) l in
        let one_to_twelve = a.2.verb_is.one_to_twelve in
        go v text a one_to_twelve s.running refl
      where
        go : (v : ℕ) (text : List ℕ) (c : Command l v text) → (0 < v) × (v ≤ 12) → (b : Bool) → s.running ≡ b → Answers s (line l) (row_of s (line l)) (answer_to s (line l))
        go v text c n true h = by_row s (line l) while_running (running-row s l v text c h) (t.running_gets_503 s l text v h c)
        go v text c n false h = by_row s (line l) (command_row s v text) (command-row s l v text c h) (of-command s l text h v n.0 n.1 c)

  pub every-line : (s : Console) (l : List ℕ) → Answers s (line l) (row_of s (line l)) (answer_to s (line l))
  every-line s l = at_or_after (number_in (read_of l)) 0 (omega arith) (of-accepted s l)
      (λ n. let r = refusals.refused_is l n in
      by_row s (line l) (refused_row (number_in (read_of l))) (refused-row s l (number_in (read_of l)) r) (of-refused s l (number_in (read_of l)) r))

  -- ---- an ending

  pub every-ending : (s : Console) (v : Verdict) → Answers s (ending v) (row_of s (ending v)) (answer_to s (ending v))
  unfolding row_of
  every-ending s v = go s.running refl v
    where
      go : (b : Bool) → s.running ≡ b → (v : Verdict) → Gets s (ending v) (cond b (end_row v) end_of_none)
      go false h v = t.end_of_none_gets_0 s v h
      go true h Guess = t.guess_gets_0 s h
      go true h Result = t.result_gets_226 s h
      go true h Suspect = t.suspect_gets_226 s h
      go true h Broken = t.broken_gets_426 s h
