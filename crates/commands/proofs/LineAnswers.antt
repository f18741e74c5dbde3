-- The number and the verb of each case of an answer, by computation; the numbers of the verbs, verb by verb.
use Rattle.std.specs.Prelude.{ℕ, ◌≤◌, ◌<◌, ◌≡◌, cond, eqb}
use Rattle.std.proofs.Common.{refl, sym, ap, ◌∙◌, arith}
use Rattle.commands.specs.Line.{number_of, verb}
use Rattle.commands.specs.LineAnswers.{LineAnswers}
use Rattle.commands.specs.declared.line.Verb.{Verb}
use Rattle.commands.specs.declared.line.Verb.TheVariants.{Mode, Pasv, Port, Rest, Retr, Stor, Spas, Spor, Eret, Esto, Sbuf, Opts}

-- the verb with this number
with_number : ℕ → Verb
with_number n =
    cond (eqb n 1) Mode (
    cond (eqb n 2) Pasv (
    cond (eqb n 3) Port (
    cond (eqb n 4) Rest (
    cond (eqb n 5) Retr (
    cond (eqb n 6) Stor (
    cond (eqb n 7) Spas (
    cond (eqb n 8) Spor (
    cond (eqb n 9) Eret (
    cond (eqb n 10) Esto (
    cond (eqb n 11) Sbuf (
    Opts)))))))))))

back : (v : Verb) → with_number (number_of v) ≡ v
unfolding with_number
back Mode = refl
back Pasv = refl
back Port = refl
back Rest = refl
back Retr = refl
back Stor = refl
back Spas = refl
back Spor = refl
back Eret = refl
back Esto = refl
back Sbuf = refl
back Opts = refl

pub one_to_twelve : (v : Verb) → (0 < number_of v) × (number_of v ≤ 12)
one_to_twelve Mode = (omega arith, omega arith)
one_to_twelve Pasv = (omega arith, omega arith)
one_to_twelve Port = (omega arith, omega arith)
one_to_twelve Rest = (omega arith, omega arith)
one_to_twelve Retr = (omega arith, omega arith)
one_to_twelve Stor = (omega arith, omega arith)
one_to_twelve Spas = (omega arith, omega arith)
one_to_twelve Spor = (omega arith, omega arith)
one_to_twelve Eret = (omega arith, omega arith)
one_to_twelve Esto = (omega arith, omega arith)
one_to_twelve Sbuf = (omega arith, omega arith)
one_to_twelve Opts = (omega arith, omega arith)

pub line-answers : LineAnswers
unfolding verb
line-answers =
    record {
      command = λ v from to. (refl, refl);
      refused = λ k. (refl, refl);
      one_to_twelve = one_to_twelve;
      apart = λ v w e. sym (back v) ∙ ap with_number e ∙ back w;
    }
