-- A line is refused by its row's number, and by no other; `Refusals` holds.
use Prim.Native.Nat.{ℕ, ◌+◌, ◌≤◌, ◌<◌}
use mathlib.Core.Path.{◌≡◌, refl, sym, ap, ◌∙◌}
use mathlib.Core.Logic.{◌⊎◌, inl, inr, ◌≢◌}
use mathlib.Core.Bool.{Bool, true, false, true≢false, not-eq-not}
use mathlib.Core.List.{List, [], ◌++◌, append-nil}
use native.Mathlib.Omega.{arith}
use borrow.Author.Tests.{ltb-true, ltb-false, le-ltb, eqb-false, ne_eqb}
use lib.Dec.{ltb}
use lib.ListN.{length, take, replicate, length-append, length-replicate}
use lib.Seq.{take_all}
use Rattle.texts.specs.Text.{all, is_letter, is_printable, is_space, leading_count}
use Rattle.std.specs.Prelude.{Err}
use Rattle.answers.specs.Refusal.{number_in}
use Rattle.commands.specs.Line.{line_limit, text_of, ends_in_cr_lf, verb_of, after_verb, has_verb, argument_start, argument_accepted, read_of, argument_of, verb}
use Rattle.commands.specs.Accepted.{Printable, TakesNoArgument}
use Rattle.commands.specs.Refused.{BeginsWithVerb, RefusedBy, by_31, by_32, by_33, by_34, by_35_missing, by_35_present, Refusals}
use Rattle.commands.proofs.Spaces.{spaces-over, spaces-taken}
use Rattle.commands.proofs.Printable.{unprintable-at, printable-at, each-printable, outside-unprintable}
use Rattle.commands.proofs.LineParts.{cr_lf, ends_whole, ended-text, ended-ends}
use Rattle.commands.proofs.Lines.{after-length, reads-31, reads-32, reads-33, reads-34, reads-35, Passed, passed-accepted}
use Rattle.commands.proofs.VerbTable.{no-argument-true, no-argument-false, no-argument-dec}
use Rattle.commands.proofs.BeginsWithVerb.{run_is, after_is, verb_is, begins-has-verb, has-verb-begins}

-- ---- the argument

missing : (text word : List ℕ) (v spaces : ℕ) → BeginsWithVerb text word (replicate spaces 32) v → (TakesNoArgument v → ⊥) → argument_accepted text ≡ false
unfolding argument_accepted argument_start leading_count
missing text word v spaces b n =
    let rest : List ℕ = replicate spaces 32 in
    let r : length text ≡ length word + spaces = ap length b.whole ∙ simp (length-append, length-replicate) in
    let s : leading_count is_space rest ≡ spaces = omega (arith, rw (append-nil rest) at (spaces-over spaces [])) in
    rw (verb_is text word rest v b, no-argument-false v n, after_is text word rest v b) (le-ltb (leading_count is_letter text + leading_count is_space rest) (length text) (omega (arith, run_is text word rest v b)))

present : (text word rest : List ℕ) (v : ℕ) → BeginsWithVerb text word rest v → TakesNoArgument v → 0 < length rest → argument_accepted text ≡ false
unfolding argument_accepted
present text word rest v b p h = rw (verb_is text word rest v b, no-argument-true v p, after_is text word rest v b) (ne_eqb (length rest) 0 (omega arith))

-- ---- the number of a row is the answer's

module _ (line : List ℕ) where
  abbrev Answer : ℕ → Type 0
  Answer k = (number_in (read_of line) ≡ k) × (verb (read_of line) ≡ 0) × (argument_of (read_of line) line ≡ [])

  answer : (k : ℕ) → read_of line ≡ Err k → Answer k
  unfolding verb argument_of
  answer k e = (ap number_in e, ap verb e, ap (λ a. argument_of a line) e)

  not-ended : ((text : List ℕ) → line ≢ text ++ cr_lf) → ends_in_cr_lf line ≡ false
  not-ended n = (not-eq-not {b = false}).0 (λ e. n (text_of line) (ends_whole line e))

  module _ (text : List ℕ) (e : line ≡ text ++ cr_lf) where
    ends : ends_in_cr_lf line ≡ true
    ends = ap ends_in_cr_lf e ∙ ended-ends text

    text_is : text_of line ≡ text
    text_is = ap text_of e ∙ ended-text text

    not-begun : ((word rest : List ℕ) (v : ℕ) → BeginsWithVerb text word rest v → ⊥) → has_verb (text_of line) ≡ false
    not-begun n = ap has_verb text_is ∙ (not-eq-not {b = false}).0 (λ s. n _ _ _ (has-verb-begins text s))

    module _ (l : length line ≤ 2048) (p : Printable text) where
      plain : all is_printable (text_of line) ≡ true
      plain = ap (all is_printable) text_is ∙ each-printable text p

      wrong : (word rest : List ℕ) (v : ℕ) → BeginsWithVerb text word rest v → argument_accepted text ≡ false → Answer 35
      wrong word rest v b a = answer 35 (reads-35 line l ends plain (ap has_verb text_is ∙ begins-has-verb text word rest v b) (ap argument_accepted text_is ∙ a))

  refused_only : (k : ℕ) → RefusedBy line k → Answer k
  refused_only _ (by_31 l) = answer 31 (reads-31 line l)
  refused_only _ (by_32 l n) = answer 32 (reads-32 line l (not-ended n))
  refused_only _ (by_33 text l e i h o) = answer 33 (reads-33 line l (ends text e) (ap (all is_printable) (text_is text e) ∙ outside-unprintable text i h o))
  refused_only _ (by_34 text l e p n) = answer 34 (reads-34 line l (ends text e) (plain text e l p) (not-begun text e n))
  refused_only _ (by_35_missing text word v spaces l e p b n) = wrong text e l p word (replicate spaces 32) v b (missing text word v spaces b n)
  refused_only _ (by_35_present text word rest v l e p b q h) = wrong text e l p word rest v b (present text word rest v b q h)

-- ---- every line has a row, or passes every test

module _ (line : List ℕ) where
  -- the line is refused, by the number of its row
  record Row : Type 0 where
    k : ℕ
    positive : 0 < k
    reads : read_of line ≡ Err k
    row : RefusedBy line k

  module _ (l : length line ≤ 2048) (e : ends_in_cr_lf line ≡ true) (p : all is_printable (text_of line) ≡ true) where
    abbrev text : List ℕ
    text = text_of line

    row-34 : has_verb text ≡ false → Row
    row-34 s = record {
      k = 34;
      positive = omega arith;
      reads = reads-34 line l e p s;
      row = by_34 text l (ends_whole line e) (printable-at text p) (λ word rest v b. true≢false (sym (begins-has-verb text word rest v b) ∙ s));
    }

    -- nothing but spaces follows the verb
    only-spaces : length text ≤ argument_start text → after_verb text ≡ replicate (leading_count is_space (after_verb text)) 32
    unfolding argument_start
    only-spaces h =
        let a = after-length text in
        let w : length (after_verb text) ≤ leading_count is_space (after_verb text) = omega arith in
        sym (take_all (leading_count is_space (after_verb text)) (after_verb text) w) ∙ spaces-taken (after_verb text)

    row-35 : has_verb text ≡ true → argument_accepted text ≡ false → Row
    unfolding argument_accepted
    row-35 s a = record { k = 35; positive = omega arith; reads = reads-35 line l e p s a; row = go (no-argument-dec (verb_of text)) }
      where
        begins : BeginsWithVerb text (take (leading_count is_letter text) text) (after_verb text) (verb_of text)
        begins = has-verb-begins text s

        go : Dec (TakesNoArgument (verb_of text)) → RefusedBy line 35
        go (yes b) =
            let n = eqb-false (length (after_verb text)) 0 (rw (no-argument-true (verb_of text) b) at a) in
            by_35_present text _ _ _ l (ends_whole line e) (printable-at text p) begins b (omega arith)
        go (no b) =
            let n = ltb-false (argument_start text) (length text) (rw (no-argument-false (verb_of text) b) at a) in
            by_35_missing text _ _ (leading_count is_space (after_verb text)) l (ends_whole line e) (printable-at text p) (rw (only-spaces n) at begins) b

  judged : Passed line ⊎ Row
  judged = go (ltb line_limit (length line)) (ends_in_cr_lf line) (all is_printable (text_of line)) (has_verb (text_of line)) (argument_accepted (text_of line)) refl refl refl refl refl
    where
      go : (a b c d e : Bool) → ltb line_limit (length line) ≡ a → ends_in_cr_lf line ≡ b → all is_printable (text_of line) ≡ c → has_verb (text_of line) ≡ d → argument_accepted (text_of line) ≡ e
          → Passed line ⊎ Row
      go true b c d e p q r s t =
          let l = ltb-true line_limit (length line) p in
          inr (record { k = 31; positive = omega arith; reads = reads-31 line l; row = by_31 l })
      go false false c d e p q r s t =
          let l = ltb-false line_limit (length line) p in
          inr (record { k = 32; positive = omega arith; reads = reads-32 line l q; row = by_32 l (λ text w. true≢false (sym (ends line text w) ∙ q)) })
      go false true false d e p q r s t =
          let l = ltb-false line_limit (length line) p in
          let u = unprintable-at (text_of line) r in
          inr (record { k = 33; positive = omega arith; reads = reads-33 line l q r; row = by_33 (text_of line) l (ends_whole line q) u.0 u.1 u.2 })
      go false true true false e p q r s t = inr (row-34 (ltb-false line_limit (length line) p) q r s)
      go false true true true false p q r s t = inr (row-35 (ltb-false line_limit (length line) p) q r s t)
      go false true true true true p q r s t = inl (record { short = ltb-false line_limit (length line) p; ended = q; printable = r; verb_is = s; argument_is = t })

  refused_is : 0 < number_in (read_of line) → RefusedBy line (number_in (read_of line))
  refused_is z = go judged
    where
      go : Passed line ⊎ Row → RefusedBy line (number_in (read_of line))
      go (inl p) = absurd (omega (arith, ap number_in (passed-accepted line p)))
      go (inr r) = rw (answer line r.k r.reads).0 r.row

  pub accepted-passed : number_in (read_of line) ≡ 0 → Passed line
  accepted-passed z = go judged
    where
      go : Passed line ⊎ Row → Passed line
      go (inl p) = p
      go (inr r) = absurd (omega (arith, (answer line r.k r.reads).0))

pub refusals : Refusals
refusals = record { refused_is = refused_is; refused_only = refused_only }
