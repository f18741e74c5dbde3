-- The class of a reply code (document 01, "Control lines"; RFC 959, 4.2.1).
use Rattle.std.specs.Prelude.{ℕ, ◌/◌, ◌≤◌, ◌<◌, ◌≡◌, Bool, cond, ◌&&◌, ◌⊎◌, Result, Ok, Err, leb}
use Rattle.answers.specs.Refusal.{number_in}
use Rattle.replies.specs.declared.reply.Class.{Class}
use Rattle.replies.specs.declared.reply.Class.TheVariants.{Preliminary, Completion, Intermediate, Transient, Permanent}

-- from first to last, both counted
abbrev pub between : ℕ → ℕ → ℕ → Bool
between first last code = leb first code && leb code last

unfoldable pub class_of : ℕ → Result Class ℕ
class_of code =
    cond (between 100 199 code) (Ok Preliminary)
    (cond (between 200 299 code) (Ok Completion)
    (cond (between 300 399 code) (Ok Intermediate)
    (cond (between 400 499 code) (Ok Transient)
    (cond (between 500 599 code) (Ok Permanent) (Err 36)))))

-- the first digit of the codes of a class, 0 where there is none
unfoldable pub first_digit : Result Class ℕ → ℕ
first_digit (Ok Preliminary) = 1
first_digit (Ok Completion) = 2
first_digit (Ok Intermediate) = 3
first_digit (Ok Transient) = 4
first_digit (Ok Permanent) = 5
first_digit (Err k) = 0

pub record Classes : Type 0 where
  pub preliminary : (code : ℕ) → 100 ≤ code → code ≤ 199 → class_of code ≡ Ok Preliminary
  pub completion : (code : ℕ) → 200 ≤ code → code ≤ 299 → class_of code ≡ Ok Completion
  pub intermediate : (code : ℕ) → 300 ≤ code → code ≤ 399 → class_of code ≡ Ok Intermediate
  pub transient : (code : ℕ) → 400 ≤ code → code ≤ 499 → class_of code ≡ Ok Transient
  pub permanent : (code : ℕ) → 500 ≤ code → code ≤ 599 → class_of code ≡ Ok Permanent
  -- the digit of a code's class is its hundreds, and nothing is refused
  pub class_is_hundreds : (code : ℕ) → 100 ≤ code → code ≤ 599 → (first_digit (class_of code) ≡ code / 100) × (number_in (class_of code) ≡ 0)
  -- every other code is refused by 36 and has no class
  pub others_refused : (code : ℕ) → (code < 100) ⊎ (599 < code) → (class_of code ≡ Err 36) × (number_in (class_of code) ≡ 36) × (first_digit (class_of code) ≡ 0)
