-- The screen line: its parts, how long it can be, and its number by FIT.
use Prim.Native.Nat.{ℕ, zero, suc, ◌+◌, ◌*◌, ◌^◌, ◌≤◌, ◌<◌}
use mathlib.Core.Path.{◌≡◌, refl, sym, ap, subst}
use mathlib.Core.List.{List, [], ◌∷◌, ◌++◌, append_assoc}
use mathlib.Core.Bool.{Bool, true, false, cond}
use native.Mathlib.Omega.{arith}
use lib.ListN.{length, take, length-append, length-take}
use Rattle.octets.specs.Decimal.{decimal}
use Rattle.octets.proofs.Decimals.{length-decimal, width_some, width-le}
use Rattle.answers.specs.Written.{room_refusal}
use Rattle.transfer.specs.declared.state.Transfer.{Transfer}
use Rattle.transfer.specs.Transfer.{World, world, Verdict, guess, result, suspect, broken, verdict_of}
use Rattle.transfer.specs.Fit.{fits_without_file}
use Rattle.verdicts.specs.declared.verdict.Verdict.{Verdict as Word}
use Rattle.verdicts.specs.declared.verdict.Verdict.TheVariants.{Guess, Result, Suspect, Broken}
use Rattle.verdicts.specs.Verdict.{to_verdict, from_verdict}
use Rattle.receiver.specs.declared.show.Shown.{Shown}
use Rattle.std.specs.Prelude.{Result as Answer, Ok, Err}
use Rattle.receiver.specs.Shown.{numbers_of, shown_of}
use Rattle.screen.specs.Screen.{broken_word, on_word, guess_word, result_word, suspect_word, ended_word, of_word, unknown_word, bytes_word, doubtful_word, line_feed, count_text, broken_text, ended_text, front_text, bytes_text, tail_text, line_text, line_of, line_for, line_text_of, screen_refusal}

-- the length of a line that is held in the first bytes of its array
pub held-length : (n : ℕ) (bytes text : List ℕ) → take n bytes ≡ text → length bytes ≡ 116 → n ≤ 116 → length text ≡ n
held-length n bytes text e l h = omega (arith, ap length e, length-take n bytes)

-- texts one after another
pub ruleset joined = (append_assoc, length-append)

-- ---- the parts of the line

pub count-unknown : (n : ℕ) → n ≡ 0 → count_text n ≡ unknown_word
unfolding count_text
count-unknown n e = rw e

pub count-known : (n : ℕ) → 0 < n → count_text n ≡ decimal n
unfolding count_text
count-known zero h = absurd (omega arith)
count-known (suc n) h = refl

-- a number between two words
pub length-between : (t u v : List ℕ) → length (t ++ u ++ v) ≡ length t + length u + length v
length-between t u v = simp length-append

pub length-broken_text : (fault on : ℕ) → length (broken_text fault on) ≡ 11 + length (decimal fault) + length (decimal on)
unfolding broken_text broken_word on_word
length-broken_text fault on = simp length-append (omega arith)

pub length-ended_text : (ended count : ℕ) → length (ended_text ended count) ≡ 11 + length (decimal ended) + length (count_text count)
unfolding ended_text ended_word of_word
length-ended_text ended count = simp length-append (omega arith)

-- ---- by the word

module _ (v : Word) (fault on ended count : ℕ) where
  pub front-broken : v ≡ Broken → front_text (to_verdict v) fault on ended count ≡ broken_text fault on
  unfolding front_text
  front-broken e = rw e

  pub front-guess : v ≡ Guess → front_text (to_verdict v) fault on ended count ≡ guess_word ++ ended_text ended count
  unfolding front_text
  front-guess e = rw e

  pub front-result : v ≡ Result → front_text (to_verdict v) fault on ended count ≡ result_word ++ ended_text ended count
  unfolding front_text
  front-result e = rw e

  pub front-suspect : v ≡ Suspect → front_text (to_verdict v) fault on ended count ≡ suspect_word ++ ended_text ended count
  unfolding front_text
  front-suspect e = rw e

pub tail-suspect : (v : Word) (doubt : ℕ) → v ≡ Suspect → tail_text (to_verdict v) doubt ≡ doubtful_word ++ decimal doubt ++ line_feed
unfolding tail_text
tail-suspect v doubt e = rw e

-- the word is another one
abbrev pub NoSuspect : Word → Type 0
NoSuspect v = v ≡ Suspect → ⊥

pub tail-other : (v : Word) (doubt : ℕ) → NoSuspect v → tail_text (to_verdict v) doubt ≡ line_feed
unfolding tail_text
tail-other Guess doubt k = refl
tail-other Result doubt k = refl
tail-other Broken doubt k = refl
tail-other Suspect doubt k = absurd (k refl)

-- ---- the whole

pub length-line_text : (v : Verdict) (fault on ended count bytes doubt : ℕ)
    → length (line_text v fault on ended count bytes doubt) ≡ length (front_text v fault on ended count) + 7 + length (decimal bytes) + length (tail_text v doubt)
unfolding line_text bytes_text bytes_word
length-line_text v fault on ended count bytes doubt = simp length-append (omega arith)

pub digits-most : (w n : ℕ) → n < 10 ^ suc w → length (decimal n) ≤ suc w
digits-most w n h = omega (arith, length-decimal n, width-le w n h)

-- of numbers of 64 bits that have at most w digits, but for the two of bytes
module _ (w fault on ended count bytes doubt : ℕ) (f : length (decimal fault) ≤ w) (o : length (decimal on) ≤ w) (e : length (decimal ended) ≤ w) (c : length (decimal count) ≤ w)
    (b : bytes < 18446744073709551616) (d : doubt < 18446744073709551616) where
  -- an unknown count has one byte, as the number 0 has
  count_most : length (count_text count) ≤ w
  unfolding count_text unknown_word
  count_most = go count c
    where
      go : (n : ℕ) → length (decimal n) ≤ w → length (count_text n) ≤ w
      go zero h = omega (arith, h, length-decimal 0, width_some 0)
      go (suc n) h = h

  front-most : (v : Verdict) → length (front_text v fault on ended count) ≤ 18 + 2 * w
  unfolding front_text guess_word result_word suspect_word
  front-most broken = omega (arith, length-broken_text fault on, f, o)
  front-most guess = omega (arith, length-append guess_word (ended_text ended count), length-ended_text ended count, e, count_most)
  front-most result = omega (arith, length-append result_word (ended_text ended count), length-ended_text ended count, e, count_most)
  front-most suspect = omega (arith, length-append suspect_word (ended_text ended count), length-ended_text ended count, e, count_most)

  tail-most : (v : Verdict) → length (tail_text v doubt) ≤ 31
  unfolding tail_text doubtful_word line_feed
  tail-most broken = omega arith
  tail-most guess = omega arith
  tail-most result = omega arith
  tail-most suspect = omega (arith, length-between doubtful_word (decimal doubt) line_feed, digits-most 19 doubt (omega (arith, d)))

  pub line-most : (v : Verdict) → length (line_text v fault on ended count bytes doubt) ≤ 76 + 2 * w
  line-most v = omega (arith, length-line_text v fault on ended count bytes doubt, front-most v, tail-most v, digits-most 19 bytes (omega (arith, b)))

-- ---- by FIT

module _ (t : Transfer) (claimed doubtful out : List ℕ) where
  pub not-fit : fits_without_file t claimed doubtful ≡ false → screen_refusal t claimed doubtful out ≡ 1
  unfolding screen_refusal
  not-fit f = rw f

  pub fit : fits_without_file t claimed doubtful ≡ true → screen_refusal t claimed doubtful out ≡ room_refusal (length (line_for t claimed doubtful)) out
  unfolding screen_refusal
  fit f = rw f

-- ---- what is shown

-- a line of these numbers, or the number of the refusal
data Said (t : Transfer) (claimed doubtful : List ℕ) : Answer Shown ℕ → Type 0 where
  says : (n : Shown) → fits_without_file t claimed doubtful ≡ true → line_text_of n ≡ line_for t claimed doubtful → Said t claimed doubtful (Ok n)
  refuses : (k : ℕ) → fits_without_file t claimed doubtful ≡ false → k ≡ 1 → Said t claimed doubtful (Err k)

to-from : (v : Verdict) → to_verdict (from_verdict v) ≡ v
to-from guess = refl
to-from result = refl
to-from suspect = refl
to-from broken = refl

said : (t : Transfer) (claimed doubtful : List ℕ) → Said t claimed doubtful (shown_of t claimed doubtful)
unfolding shown_of
said t claimed doubtful = go (fits_without_file t claimed doubtful) refl
  where
    w : World
    w = world t [] claimed doubtful

    line_is : line_text_of (numbers_of w) ≡ line_of w
    line_is = unfold numbers_of line_of in rw (to-from (verdict_of w))

    go : (b : Bool) → fits_without_file t claimed doubtful ≡ b → Said t claimed doubtful (cond b (Ok (numbers_of w)) (Err 1))
    go true e = says (numbers_of w) e line_is
    go false e = refuses 1 e refl

pub says-line : (t : Transfer) (claimed doubtful : List ℕ) (n : Shown) → Ok n ≡ shown_of t claimed doubtful → (fits_without_file t claimed doubtful ≡ true) × (line_text_of n ≡ line_for t claimed doubtful)
says-line t claimed doubtful n e = go (subst (Said t claimed doubtful) (sym e) (said t claimed doubtful))
  where
    go : Said t claimed doubtful (Ok n) → (fits_without_file t claimed doubtful ≡ true) × (line_text_of n ≡ line_for t claimed doubtful)
    go (says _ f q) = (f, q)

pub says-refused : (t : Transfer) (claimed doubtful : List ℕ) (k : ℕ) → Err k ≡ shown_of t claimed doubtful → (fits_without_file t claimed doubtful ≡ false) × (k ≡ 1)
says-refused t claimed doubtful k e = go (subst (Said t claimed doubtful) (sym e) (said t claimed doubtful))
  where
    go : Said t claimed doubtful (Err k) → (fits_without_file t claimed doubtful ≡ false) × (k ≡ 1)
    go (refuses _ f q) = (f, q)
