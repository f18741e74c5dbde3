-- The states that sequences of lines and endings come to.
use mathlib.Core.Path.{◌≡◌, refl, sym, ap, ◌∙◌}
use mathlib.Core.Logic.{◌⊎◌, ⊎_elim, inl, inr, ◌≢◌}
use mathlib.Core.Bool.{Bool, true, false, false≢true}
use mathlib.Core.List.{List, [], ◌∷◌, ◌++◌}
use Rattle.console.specs.declared.state.Console.{Console}
use Rattle.console.specs.declared.state.Endpoint.{Endpoint}
use Rattle.console.specs.declared.state.Endpoint.TheVariants.{None, Listening, Connecting}
use Rattle.console.specs.declared.state.Answer.{Answer}
use Rattle.console.specs.Console.{Event, line, ending, beginning, asked, at_endpoint, started}
use Rattle.console.specs.Rows.{MODE, PASV, PORT, RETR, STOR, is_listening, is_connecting, answer_to}
use Rattle.console.specs.Table.{Table}
use Rattle.console.specs.Sessions.{after, Reached, Possible}
use Rattle.console.proofs.Table.{sentences}
use Rattle.console.proofs.EveryEvent.{every-line, every-ending}
use Rattle.commands.specs.WrittenLines.{line_of, bare_line}
use Rattle.console.proofs.ExampleLines.{visible, takes_argument, is_argument, bare-command, command-of, capital-e, letter-x, host-port, is-host-port}

-- ---- one event more

after-snoc : (s : Console) (es : List Event) (e : Event) → after s (es ++ (e ∷ [])) ≡ (answer_to (after s es) e).console
unfolding after
after-snoc s [] e = refl
after-snoc s (x ∷ es) e = after-snoc (answer_to s x).console es e

next : (s : Console) → Reached s → (e : Event) (a : Answer) → answer_to s e ≡ a → Reached a.console
next s r e a h =
    record {
      events = r.events ++ (e ∷ []);
      comes_to = after-snoc beginning r.events e ∙ ap (λ k. (answer_to k e).console) r.comes_to ∙ ap (λ k. k.console) h;
    }

pub at-beginning : Reached beginning
unfolding after
at-beginning = record { events = []; comes_to = refl }

-- ---- the commands that lead on

module _ (s : Console) (r : Reached s) (h : s.running ≡ false) where
  pub asks-mode-e : Reached (asked s)
  unfolding visible is_argument takes_argument
  asks-mode-e =
      next s r (line (line_of MODE capital-e)) _
      (sentences.mode_e_gets_200 s (line_of MODE capital-e) capital-e (h, command-of MODE capital-e refl refl) (inl refl)).1

  pub listens : Reached (at_endpoint s Listening)
  listens = next s r (line (bare_line PASV)) _ (sentences.pasv_gets_227 s (bare_line PASV) [] (h, bare-command PASV (inl refl))).1

  pub connects : Reached (at_endpoint s Connecting)
  unfolding visible is_argument takes_argument
  connects =
      next s r (line (line_of PORT host-port)) _
      (sentences.port_gets_200 s (line_of PORT host-port) host-port (h, command-of PORT host-port refl refl) is-host-port).1

  pub stores : s.extended ≡ true → s.endpoint ≡ Listening → Reached (started s)
  unfolding visible is_argument takes_argument
  stores m e =
      next s r (line (line_of STOR letter-x)) _
      (sentences.stor_gets_150 s (line_of STOR letter-x) letter-x STOR (h, command-of STOR letter-x refl refl) (inl refl) m e).1

  pub retrieves : s.extended ≡ true → s.endpoint ≡ Connecting → Reached (started s)
  unfolding visible is_argument takes_argument
  retrieves m e =
      next s r (line (line_of RETR letter-x)) _
      (sentences.retr_gets_150 s (line_of RETR letter-x) letter-x RETR (h, command-of RETR letter-x refl refl) (inl refl) m e).1

-- ---- the eight states

pub mode-e-asked : Reached (asked beginning)
mode-e-asked = asks-mode-e beginning at-beginning refl

pub is-listening : Reached (at_endpoint (asked beginning) Listening)
is-listening = listens (asked beginning) mode-e-asked refl

pub is-connecting : Reached (at_endpoint (asked beginning) Connecting)
is-connecting = connects (asked beginning) mode-e-asked refl

pub is-storing : Reached (started (at_endpoint (asked beginning) Listening))
is-storing = stores (at_endpoint (asked beginning) Listening) is-listening refl refl refl

pub reached : (s : Console) → Possible s → Reached s
reached s p = go s.extended s.endpoint s.running p
  where
    go : (x : Bool) (e : Endpoint) (b : Bool) → (b ≡ false) ⊎ ((x ≡ true) × (e ≢ None)) → Reached (record { extended = x; endpoint = e; running = b })
    go false None false p = at-beginning
    go false Listening false p = listens beginning at-beginning refl
    go false Connecting false p = connects beginning at-beginning refl
    go true None false p = mode-e-asked
    go true Listening false p = is-listening
    go true Connecting false p = is-connecting
    go true Listening true p = is-storing
    go true Connecting true p = retrieves (at_endpoint (asked beginning) Connecting) is-connecting refl refl refl
    go true None true p = absurd (⊎_elim (λ e. false≢true (sym e)) (λ q. q.1 refl) p)
    go false e true p = absurd (⊎_elim (λ e. false≢true (sym e)) (λ q. false≢true q.0) p)

-- ---- no other state

-- an endpoint that is listening or connecting is one
not_none : (e f : Endpoint) → e ≡ f → f ≢ None → e ≢ None
not_none e f h n k = n (sym h ∙ k)

listening-is-one : Listening ≢ None
listening-is-one e = false≢true (sym (ap is_listening e))

connecting-is-one : Connecting ≢ None
connecting-is-one e = false≢true (sym (ap is_connecting e))

-- by every sentence a possible state leads to a possible one
stays-possible : Table (λ s e r a. Possible s → Possible a.console)
stays-possible =
    record {
      mode_e_gets_200 = λ s l text a p i. inl a.0;
      other_mode_gets_504 = λ s l text a n i. i;
      too_early_gets_503 = λ s l text v a w h i. i;
      pasv_gets_227 = λ s l text a i. inl a.0;
      spas_gets_229 = λ s l text a h i. inl a.0;
      port_gets_200 = λ s l text a h i. inl a.0;
      spor_gets_200 = λ s l text a m h i. inl a.0;
      port_gets_501 = λ s l text a n i. i;
      spor_gets_501 = λ s l text a m n i. i;
      stor_gets_150 = λ s l text v a w m h i. inr (m, not_none s.endpoint Listening h listening-is-one);
      stor_gets_503 = λ s l text v a w h i. i;
      retr_gets_150 = λ s l text v a w m h i. inr (m, not_none s.endpoint Connecting h connecting-is-one);
      retr_gets_503 = λ s l text v a w h i. i;
      rest_gets_350 = λ s l text a n i. i;
      rest_gets_501 = λ s l text a p i. i;
      sbuf_opts_get_200 = λ s l text v a w i. i;
      refused_line_gets_500 = λ s l k r hi i. i;
      refused_argument_gets_501 = λ s l r i. i;
      running_gets_503 = λ s l text v h c i. i;
      result_gets_226 = λ s h i. inl refl;
      suspect_gets_226 = λ s h i. inl refl;
      broken_gets_426 = λ s h i. inl refl;
      guess_gets_0 = λ s h i. i;
      end_of_none_gets_0 = λ s v h i. i;
    }

next-possible : (s : Console) (e : Event) → Possible s → Possible (answer_to s e).console
next-possible s (line l) = every-line _ stays-possible s l
next-possible s (ending v) = every-ending _ stays-possible s v

after-possible : (s : Console) (es : List Event) → Possible s → Possible (after s es)
unfolding after
after-possible s [] i = i
after-possible s (e ∷ es) i = after-possible (answer_to s e).console es (next-possible s e i)

pub reached_only : (s : Console) → Reached s → Possible s
reached_only s r = rw r.comes_to at (after-possible beginning r.events (inl refl))
