-- What the reader answers, case by case.
use Prim.Native.Nat.{ℕ, ◌-◌, ◌≤◌, ◌<◌}
use mathlib.Core.Path.{◌≡◌, refl}
use mathlib.Core.Bool.{Bool, true, false, cond, not, and-false}
use mathlib.Core.List.{List}
use native.Mathlib.Omega.{arith}
use borrow.Author.Tests.{lt-ltb, le-ltb}
use lib.Dec.{ltb, eqb}
use lib.ListN.{length, get_or, length-take, length-drop}
use Rattle.texts.specs.Text.{all, is_letter, is_printable, is_space, leading_count}
use Rattle.std.specs.Prelude.{Result, Ok, Err}
use Rattle.commands.specs.Line.{Said, Says, line_limit, argument_number, takes_no_argument, text_of, ends_in_cr_lf, verb_of, after_verb, has_verb, argument_start, argument_accepted, read_text_of, refusal_of, read_of}
use Rattle.texts.proofs.Texts.{leading_le}

-- ---- the text before CR LF

module _ (text : List ℕ) where
  pub after-length : length (after_verb text) ≡ length text - leading_count is_letter text
  unfolding after_verb
  after-length = length-drop (leading_count is_letter text) text

  pub argument-past : leading_count is_letter text ≤ argument_start text
  unfolding argument_start
  argument-past = omega arith

  pub argument-within : argument_start text ≤ length text
  unfolding argument_start
  argument-within =
      let n = leading_le is_letter text in
      let s = leading_le is_space (after_verb text) in
      omega (arith, after-length)

  -- ---- the tests, one after another

  pub text-unlisted : verb_of text ≡ 0 → read_text_of text ≡ Err 34
  unfolding read_text_of has_verb
  text-unlisted v = rw v

  pub text-not-ended : eqb (get_or (after_verb text) 0 32) 32 ≡ false → read_text_of text ≡ Err 34
  unfolding read_text_of has_verb
  text-not-ended n = rw (n, and-false (ltb 0 (verb_of text)))

  module _ (v : 0 < verb_of text) (e : eqb (get_or (after_verb text) 0 32) 32 ≡ true) where
    pub text-wrong : argument_accepted text ≡ false → read_text_of text ≡ Err argument_number
    unfolding read_text_of has_verb
    text-wrong a = rw (lt-ltb 0 (verb_of text) v, e, a)

    pub text-command : argument_accepted text ≡ true → read_text_of text ≡ Ok (Says (verb_of text) (argument_start text) (length text))
    unfolding read_text_of has_verb
    text-command a = rw (lt-ltb 0 (verb_of text) v, e, a)

  pub accepted-none : takes_no_argument (verb_of text) ≡ true → argument_accepted text ≡ eqb (length (after_verb text)) 0
  unfolding argument_accepted
  accepted-none b = rw b

  pub accepted-some : takes_no_argument (verb_of text) ≡ false → argument_accepted text ≡ ltb (argument_start text) (length text)
  unfolding argument_accepted
  accepted-some b = rw b

-- ---- the whole line

module _ (line : List ℕ) where
  pub reads-31 : line_limit < length line → read_of line ≡ Err 31
  unfolding read_of refusal_of
  reads-31 l = rw (lt-ltb line_limit (length line) l)

  module _ (l : length line ≤ line_limit) where
    pub reads-32 : ends_in_cr_lf line ≡ false → read_of line ≡ Err 32
    unfolding read_of refusal_of
    reads-32 e = rw (le-ltb line_limit (length line) l, e)

    module _ (e : ends_in_cr_lf line ≡ true) where
      pub reads-33 : all is_printable (text_of line) ≡ false → read_of line ≡ Err 33
      unfolding read_of refusal_of
      reads-33 p = rw (le-ltb line_limit (length line) l, e, p)

      pub reads-text : all is_printable (text_of line) ≡ true → read_of line ≡ read_text_of (text_of line)
      unfolding read_of refusal_of read_text_of
      reads-text p =
          let text = text_of line in
          rw (le-ltb line_limit (length line) l, e, p)
          (by_tests (Ok (Says (verb_of text) (argument_start text) (length text))) (has_verb text) (argument_accepted text))
        where
          by_tests : (c : Result Said ℕ) (v a : Bool) → let k : ℕ = cond (not v) 34 (cond (not a) argument_number 0) in
              cond (ltb 0 k) (Err k) c ≡ cond (not v) (Err 34) (cond (not a) (Err argument_number) c)
          by_tests c false a = refl
          by_tests c true false = refl
          by_tests c true true = refl

      module _ (p : all is_printable (text_of line) ≡ true) where
        pub reads-34 : has_verb (text_of line) ≡ false → read_of line ≡ Err 34
        unfolding read_of refusal_of
        reads-34 v = rw (le-ltb line_limit (length line) l, e, p, v)

        pub reads-35 : has_verb (text_of line) ≡ true → argument_accepted (text_of line) ≡ false → read_of line ≡ Err argument_number
        unfolding read_of refusal_of
        reads-35 v a = rw (le-ltb line_limit (length line) l, e, p, v, a)

  -- the places of an answer lie in the line
  pub reads-within : (v from to : ℕ) → read_of line ≡ Ok (Says v from to) → (from ≤ to) × (to ≤ length line)
  unfolding read_of
  reads-within v from to e = go (ltb 0 (refusal_of line)) e
    where
      go : (refused : Bool) → cond refused (Err (refusal_of line)) (Ok (Says (verb_of (text_of line)) (argument_start (text_of line)) (length (text_of line)))) ≡ Ok (Says v from to)
          → (from ≤ to) × (to ≤ length line)
      go true e = absurd (let z : ◌≡◌ {A = ℕ} 0 1 = cc in omega arith)
      go false e =
          let f : from ≡ argument_start (text_of line) = cc in
          let t : to ≡ length (text_of line) = cc in
          let w = argument-within (text_of line) in
          (omega arith, omega (arith, length-take (length line - 2) line))

-- ---- a line is accepted where it passes every test

pub record Passed (line : List ℕ) : Type 0 where
  pub short : length line ≤ line_limit
  pub ended : ends_in_cr_lf line ≡ true
  pub printable : all is_printable (text_of line) ≡ true
  pub verb_is : has_verb (text_of line) ≡ true
  pub argument_is : argument_accepted (text_of line) ≡ true

pub passed-accepted : (line : List ℕ) → Passed line → read_of line ≡ Ok (Says (verb_of (text_of line)) (argument_start (text_of line)) (length (text_of line)))
unfolding read_of refusal_of
passed-accepted line p = rw (le-ltb line_limit (length line) p.short, p.ended, p.printable, p.verb_is, p.argument_is)
