-- `Numbers` holds.
use Prim.Native.Nat.{ℕ}
use mathlib.Core.Path.{◌≡◌, refl}
use mathlib.Core.Logic.{◌⊎◌, inl, inr}
use mathlib.Core.Bool.{Bool, true, false, cond}
use borrow.Author.Tests.{lt-ltb, eqb-true}
use lib.Dec.{ltb, eqb}
use Rattle.std.specs.Prelude.{Result as Answer, Ok, Err}
use Rattle.eblock.specs.declared.header.Header.{Header}
use Rattle.eblock.specs.declared.header.Header.TheVariants.{Data, Eodc}
use Rattle.answers.specs.Refusal.{number_in}
use Rattle.answers.specs.Written.{Written, written_bytes}
use Rattle.commands.specs.Line.{Said, Says, verb}
use Rattle.savedledgers.specs.Saved.{loaded_for_length}
use Rattle.receiver.specs.declared.show.Shown.{Shown}
use Rattle.verdicts.specs.Verdict.{to_verdict}
use Rattle.verdicts.specs.declared.verdict.Verdict.{Verdict}
use Rattle.verdicts.specs.declared.verdict.Verdict.TheVariants.{Guess, Result, Suspect, Broken}
use Rattle.console.specs.declared.state.Endpoint.{Endpoint}
use Rattle.console.specs.declared.state.Endpoint.TheVariants.{None, Listening, Connecting}
use Rattle.host.specs.Received.{verdict_code}
use Rattle.host.specs.Header.{fields_of}
use Rattle.host.specs.Written.{written_of}
use Rattle.host.specs.Loaded.{loaded_for_of}
use Rattle.host.specs.Line.{command_of}
use Rattle.host.specs.Hosts.{host_port_count_of}
use Rattle.host.specs.Shown.{shown_by}
use Rattle.host.specs.Consoles.{endpoint_meant, verdict_meant, one_if, endpoint_code}
use Rattle.host.specs.Numbers.{Numbers}

header : (x : Answer Header ℕ) → (fields_of x).refused ≡ number_in x
header (Ok (Data d n offset)) = refl
header (Ok (Eodc d n)) = refl
header (Err k) = refl

line : (x : Answer Said ℕ) → (command_of x).refused ≡ number_in x
line (Ok (Says v from to)) = refl
line (Err k) = refl

verb_is : (x : Answer Said ℕ) → (command_of x).verb ≡ verb x
unfolding verb
verb_is (Ok (Says v from to)) = refl
verb_is (Err k) = refl

written : (x : Written) → ((written_of x).length ≡ written_bytes x) × ((written_of x).refused ≡ number_in x)
unfolding written_bytes
written (Ok n) = (refl, refl)
written (Err k) = (refl, refl)

loaded_for : (x : Answer ℕ ℕ) → ((loaded_for_of x).length ≡ loaded_for_length x) × ((loaded_for_of x).refused ≡ number_in x)
unfolding loaded_for_length
loaded_for (Ok f) = (refl, refl)
loaded_for (Err k) = (refl, refl)

shown : (x : Answer Shown ℕ) → (shown_by x).refused ≡ number_in x
shown (Ok n) = refl
shown (Err k) = refl

list : (x : Answer ℕ ℕ) → (host_port_count_of x).refused ≡ number_in x
list (Ok n) = refl
list (Err k) = refl

yes-back : (b : Bool) → ltb 0 (one_if b) ≡ b
yes-back true = refl
yes-back false = refl

endpoint-back : (e : Endpoint) → endpoint_meant (endpoint_code e) ≡ e
endpoint-back None = refl
endpoint-back Listening = refl
endpoint-back Connecting = refl

endpoint_meant_is : (n : ℕ) → (endpoint_meant n ≡ None) ⊎ (n ≡ endpoint_code (endpoint_meant n))
endpoint_meant_is n = go (eqb n 1) (eqb n 2) refl refl
  where
    go : (a b : Bool) → eqb n 1 ≡ a → eqb n 2 ≡ b → (cond a Listening (cond b Connecting None) ≡ None) ⊎ (n ≡ endpoint_code (cond a Listening (cond b Connecting None)))
    go true b e f = inr (eqb-true n 1 e)
    go false true e f = inr (eqb-true n 2 f)
    go false false e f = inl refl

verdict_meant_is : (n : ℕ) → (verdict_meant n ≡ Guess) ⊎ (n ≡ verdict_code (to_verdict (verdict_meant n)))
verdict_meant_is n = go (eqb n 1) (eqb n 2) (eqb n 3) refl refl refl
  where
    go : (a b c : Bool) → eqb n 1 ≡ a → eqb n 2 ≡ b → eqb n 3 ≡ c
        → (cond a Result (cond b Broken (cond c Suspect Guess)) ≡ Guess) ⊎ (n ≡ verdict_code (to_verdict (cond a Result (cond b Broken (cond c Suspect Guess)))))
    go true b c e f g = inr (eqb-true n 1 e)
    go false true c e f g = inr (eqb-true n 2 f)
    go false false true e f g = inr (eqb-true n 3 g)
    go false false false e f g = inl refl

verdict_back : (v : Verdict) → verdict_meant (verdict_code (to_verdict v)) ≡ v
verdict_back Guess = refl
verdict_back Result = refl
verdict_back Suspect = refl
verdict_back Broken = refl

pub numbers : Numbers
numbers =
    record {
      header = header;
      line = line;
      verb_is = verb_is;
      written = written;
      loaded_for = loaded_for;
      sent = λ x s. ((written x).0, (written x).1, refl);
      shown = shown;
      shown_are = λ n. (refl, refl, refl, refl, refl, refl, refl);
      not_shown = λ k. refl;
      received = λ n w. refl;
      not_received = λ k w. refl;
      words = refl;
      list = list;
      console_back = λ s. rw (yes-back s.extended, endpoint-back s.endpoint, yes-back s.running);
      verdict_back = verdict_back;
      endpoints = refl;
      yes_and_no = refl;
      begins = refl;
      yes_meant = λ n. (lt-ltb 0 n.extended, lt-ltb 0 n.running);
      endpoint_meant_is = endpoint_meant_is;
      answered = λ a. (refl, refl, refl);
      verdict_meant_is = verdict_meant_is;
    }
