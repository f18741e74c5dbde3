-- The class of a code, range by range; `Classes` holds.
use Rattle.std.proofs.Common.{ℕ, ◌/◌, ◌≤◌, ◌<◌, ◌≡◌, ap, ◌∙◌, ◌⊎◌, inl, inr, arith}
use Rattle.std.specs.Prelude.{Ok, Err}
use native.Mathlib.Decide.{dec_lt}
use Rattle.answers.specs.Refusal.{number_in}
use Rattle.replies.specs.Reply.{class_of, first_digit, Classes}
use Rattle.replies.specs.declared.reply.Class.{Class}
use Rattle.replies.specs.declared.reply.Class.TheVariants.{Preliminary, Completion, Intermediate, Transient, Permanent}
use Rattle.std.proofs.lemmas.Bool.Decides.{nat_tests}

preliminary : (code : ℕ) → 100 ≤ code → code ≤ 199 → class_of code ≡ Ok Preliminary
unfolding class_of
preliminary code h g = grind (arith, nat_tests)

completion : (code : ℕ) → 200 ≤ code → code ≤ 299 → class_of code ≡ Ok Completion
unfolding class_of
completion code h g = grind (arith, nat_tests)

intermediate : (code : ℕ) → 300 ≤ code → code ≤ 399 → class_of code ≡ Ok Intermediate
unfolding class_of
intermediate code h g = grind (arith, nat_tests)

transient : (code : ℕ) → 400 ≤ code → code ≤ 499 → class_of code ≡ Ok Transient
unfolding class_of
transient code h g = grind (arith, nat_tests)

permanent : (code : ℕ) → 500 ≤ code → code ≤ 599 → class_of code ≡ Ok Permanent
unfolding class_of
permanent code h g = grind (arith, nat_tests)

others : (code : ℕ) → (code < 100) ⊎ (599 < code) → class_of code ≡ Err 36
unfolding class_of
others code (inl h) = grind (arith, nat_tests)
others code (inr h) = grind (arith, nat_tests)

others_refused : (code : ℕ) → (code < 100) ⊎ (599 < code) → (class_of code ≡ Err 36) × (number_in (class_of code) ≡ 36) × (first_digit (class_of code) ≡ 0)
unfolding first_digit
others_refused code h = let e = others code h in (e, ap number_in e, ap first_digit e)

-- a class whose codes begin with this digit
hundreds : (code : ℕ) (k : Class) → class_of code ≡ Ok k → first_digit (Ok k) ≡ code / 100 → (first_digit (class_of code) ≡ code / 100) × (number_in (class_of code) ≡ 0)
hundreds code k e d = (ap first_digit e ∙ d, ap number_in e)

by-hundreds : (code : ℕ) → 100 ≤ code → code ≤ 599 → (first_digit (class_of code) ≡ code / 100) × (number_in (class_of code) ≡ 0)
unfolding first_digit
by-hundreds code h g = go (dec_lt code 200) (dec_lt code 300) (dec_lt code 400) (dec_lt code 500)
  where
    go : Dec (code < 200) → Dec (code < 300) → Dec (code < 400) → Dec (code < 500) → (first_digit (class_of code) ≡ code / 100) × (number_in (class_of code) ≡ 0)
    go (yes a) b c d = hundreds code Preliminary (preliminary code h (omega arith)) (omega arith)
    go (no a) (yes b) c d = hundreds code Completion (completion code (omega arith) (omega arith)) (omega arith)
    go (no a) (no b) (yes c) d = hundreds code Intermediate (intermediate code (omega arith) (omega arith)) (omega arith)
    go (no a) (no b) (no c) (yes d) = hundreds code Transient (transient code (omega arith) (omega arith)) (omega arith)
    go (no a) (no b) (no c) (no d) = hundreds code Permanent (permanent code (omega arith) g) (omega arith)

pub classes : Classes
classes =
    record {
      preliminary = preliminary;
      completion = completion;
      intermediate = intermediate;
      transient = transient;
      permanent = permanent;
      class_is_hundreds = by-hundreds;
      others_refused = others_refused;
    }
