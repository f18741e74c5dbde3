-- The refusal number and the verb of what the line reader answers, a command or a refusal; and the numbers of the verbs.
use Rattle.std.specs.Prelude.{ℕ, ◌≤◌, ◌<◌, ◌≡◌, Ok, Err}
use Rattle.answers.specs.Refusal.{number_in}
use Rattle.commands.specs.Line.{Said, Says, number_of, verb}
use Rattle.commands.specs.declared.line.Verb.{Verb}

pub record LineAnswers : Type 0 where
  pub command : (v from to : ℕ) → (number_in (Ok (Says v from to)) ≡ 0) × (verb (Ok (Says v from to)) ≡ v)
  pub refused : (k : ℕ) → (number_in {A = Said} (Err k) ≡ k) × (verb (Err k) ≡ 0)
  -- a verb's number is one of 1 to 12, and no other verb's
  pub one_to_twelve : (v : Verb) → (0 < number_of v) × (number_of v ≤ 12)
  pub apart : (v w : Verb) → number_of v ≡ number_of w → v ≡ w
