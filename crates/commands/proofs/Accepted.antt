-- A line is accepted where it is a command line, and nowhere else: `AcceptedLines` holds.
use Prim.Native.Nat.{ℕ, zero, suc, ◌+◌, ◌<◌}
use mathlib.Core.Path.{◌≡◌, refl, sym, ap, ◌∙◌}
use mathlib.Core.Logic.{◌⊎◌, inl, inr, ◌≢◌}
use mathlib.Core.Bool.{true, cond}
use mathlib.Core.List.{List, [], ◌++◌, append_assoc}
use native.Mathlib.Omega.{arith}
use borrow.Author.Tests.{lt-ltb, ltb-true, eq-eqb, eqb-true}
use lib.Dec.{ltb, eqb}
use lib.ListN.{length, get_or, take, drop, replicate, length-append, length-drop, length-replicate, drop_of_length-le}
use lib.Seq.{drop_at, drop-drop, drop-append-add}
use Rattle.texts.specs.Text.{all, is_letter, is_printable, is_space, leading_count}
use Rattle.answers.specs.Refusal.{number_in}
use Rattle.commands.specs.Line.{takes_no_argument, text_of, ends_in_cr_lf, verb_of, after_verb, has_verb, argument_start, argument_accepted, read_of, argument_of, verb}
use Rattle.commands.specs.Accepted.{TakesNoArgument, CommandLine, AcceptedLines}
use Rattle.commands.specs.Refused.{BeginsWithVerb}
use Rattle.texts.proofs.Texts.{all_append, all_drop, leading_le, leading-rest}
use Rattle.commands.proofs.Spaces.{spaces-over, no-space, space-first, first-no-space}
use Rattle.commands.proofs.Printable.{letters-printable, spaces-printable, printable-at, each-printable}
use Rattle.commands.proofs.Refused.{accepted-passed}
use Rattle.commands.proofs.VerbTable.{no-argument-true, no-argument-false, no-argument-dec}
use Rattle.commands.proofs.BeginsWithVerb.{run_is, after_is, verb_is, begins-has-verb, has-verb-begins}
use Rattle.commands.proofs.LineParts.{cr_lf, ends_whole, ended-text, ended-ends, part-is, text-whole}
use Rattle.commands.proofs.Lines.{after-length, argument-past, argument-within, Passed, passed-accepted}

regroup : (word spaces argument rest : List ℕ) → (word ++ (spaces ++ argument)) ++ rest ≡ word ++ (spaces ++ (argument ++ rest))
regroup word spaces argument rest = simp append_assoc

-- what is handed back of an accepted line is the end of its text
handed : (line : List ℕ) → Passed line → argument_of (read_of line) line ≡ drop (argument_start (text_of line)) (text_of line)
unfolding argument_of
handed line p =
    let t = text_of line in
    rw (passed-accepted line p) (part-is line t cr_lf (argument_start t) (ends_whole line p.ended) (argument-within t))

-- ---- a line that is accepted

module _ (line : List ℕ) (p : Passed line) where
  abbrev text : List ℕ
  text = text_of line

  abbrev v : ℕ
  v = verb_of text

  abbrev argument : List ℕ
  argument = drop (argument_start text) text

  begins : BeginsWithVerb text (take (leading_count is_letter text) text) (after_verb text) v
  begins = has-verb-begins text p.verb_is

  whole : line ≡ take (leading_count is_letter text) text ++ (replicate (leading_count is_space (after_verb text)) 32 ++ (argument ++ cr_lf))
  whole =
      ends_whole line p.ended ∙ ap (λ t. t ++ cr_lf) (text-whole text)
      ∙ regroup (take (leading_count is_letter text) text) (replicate (leading_count is_space (after_verb text)) 32) argument cr_lf

  no_argument : TakesNoArgument v → (leading_count is_space (after_verb text) ≡ 0) × (argument ≡ [])
  unfolding argument_accepted
  no_argument b =
      let n = eqb-true (length (after_verb text)) 0 (rw (no-argument-true v b) at p.argument_is) in
      let s = leading_le is_space (after_verb text) in
      (omega arith, drop_of_length-le text {i = argument_start text} (omega (arith, after-length text, argument-past text)))

  with_argument : (TakesNoArgument v → ⊥) → (0 < leading_count is_space (after_verb text)) × (0 < length argument)
  unfolding argument_accepted
  with_argument b =
      let n = ltb-true (argument_start text) (length text) (rw (no-argument-false v b) at p.argument_is) in
      let s = space-first (after_verb text) (omega (arith, after-length text, argument-past text)) begins.followed in
      (s, omega (arith, length-drop (argument_start text) text))

  first : get_or argument 0 0 ≢ 32
  unfolding argument_start after_verb
  first = first-no-space argument (ap (leading_count is_space) (sym (drop-drop (leading_count is_space (after_verb text)) (leading_count is_letter text) text)) ∙ leading-rest is_space (after_verb text))

  command-line : CommandLine line (take (leading_count is_letter text) text) argument v (leading_count is_space (after_verb text))
  command-line = record {
    whole = whole;
    short = p.short;
    printable = printable-at argument (all_drop is_printable text (argument_start text) p.printable);
    verb_is = begins.verb_is;
    no_argument = no_argument;
    with_argument = with_argument;
    first = first;
  }

by-line : (line : List ℕ) → number_in (read_of line) ≡ 0
    → (word : List ℕ) × (spaces : ℕ) × CommandLine line word (argument_of (read_of line) line) (verb (read_of line)) spaces
unfolding verb
by-line line e =
    let p = accepted-passed line e in
    let t = text_of line in
    (take (leading_count is_letter t) t, leading_count is_space (after_verb t), rw (handed line p, passed-accepted line p) (command-line line p))

-- ---- a command line

-- a space follows the word or nothing does
rest-followed : (spaces : ℕ) (text : List ℕ) → (spaces ≡ 0 → text ≡ []) → (replicate spaces 32 ++ text ≡ []) ⊎ (get_or (replicate spaces 32 ++ text) 0 0 ≡ 32)
rest-followed zero end h = inl (h refl)
rest-followed (suc n) end h = inr refl

module _ (line word argument : List ℕ) (v spaces : ℕ) (k : CommandLine line word argument v spaces) where
  abbrev rest : List ℕ
  rest = replicate spaces 32 ++ argument

  abbrev joined : List ℕ
  joined = word ++ rest

  line_is : line ≡ joined ++ cr_lf
  line_is = k.whole ∙ sym (regroup word (replicate spaces 32) argument cr_lf)

  text_is : text_of line ≡ joined
  text_is = ap text_of line_is ∙ ended-text joined

  begun : BeginsWithVerb joined word rest v
  begun = record { whole = refl; verb_is = k.verb_is; followed = rest-followed spaces argument (λ z. go (no-argument-dec v) z) }
    where
      go : Dec (TakesNoArgument v) → spaces ≡ 0 → argument ≡ []
      go (yes b) z = (k.no_argument b).1
      go (no b) z = absurd (omega (arith, (k.with_argument b).0))

  rest-length : length rest ≡ spaces + length argument
  rest-length = simp (length-append, length-replicate)

  place_is : argument_start joined ≡ length word + spaces
  unfolding argument_start
  place_is = rw (after_is joined word rest v begun) (omega (arith, run_is joined word rest v begun, spaces-over spaces argument, no-space argument k.first))

  joined-printable : all is_printable joined ≡ true
  joined-printable = rw (all_append is_printable word rest, all_append is_printable (replicate spaces 32) argument, letters-printable word k.verb_is.letters, spaces-printable spaces, each-printable argument k.printable)

  joined-argument : argument_accepted joined ≡ true
  unfolding argument_accepted
  joined-argument = rw (verb_is joined word rest v begun, after_is joined word rest v begun) (go (no-argument-dec v))
    where
      go : Dec (TakesNoArgument v) → cond (takes_no_argument v) (eqb (length rest) 0) (ltb (argument_start joined) (length joined)) ≡ true
      go (yes b) = rw (no-argument-true v b, eq-eqb (length rest) 0 (omega (arith, rest-length, (k.no_argument b).0, ap length (k.no_argument b).1)))
      go (no b) = rw (no-argument-false v b, lt-ltb (argument_start joined) (length joined) (omega (arith, place_is, rest-length, length-append word rest, (k.with_argument b).1)))

  passed : Passed line
  passed = record {
    short = k.short;
    ended = ap ends_in_cr_lf line_is ∙ ended-ends joined;
    printable = ap (all is_printable) text_is ∙ joined-printable;
    verb_is = ap has_verb text_is ∙ begins-has-verb joined word rest v begun;
    argument_is = ap argument_accepted text_is ∙ joined-argument;
  }

  joined-part : drop (argument_start joined) joined ≡ argument
  joined-part = rw (place_is, drop-append-add word rest spaces) (drop_at (replicate spaces 32) argument spaces (length-replicate spaces 32))

  accepted : (number_in (read_of line) ≡ 0) × (verb (read_of line) ≡ v) × (argument_of (read_of line) line ≡ argument)
  unfolding verb
  accepted =
      let r = passed-accepted line passed in
      (ap number_in r, ap verb r ∙ ap verb_of text_is ∙ verb_is joined word rest v begun, handed line passed ∙ ap (λ t. drop (argument_start t) t) text_is ∙ joined-part)

pub accepted-lines : AcceptedLines
accepted-lines = record { accepted_is = by-line; command_line_accepted = accepted }
