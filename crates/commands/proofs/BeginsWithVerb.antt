-- The verb that a text begins with: `BeginsWithVerb` is what the test says.
use Prim.Native.Nat.{ℕ, suc, ◌-◌}
use mathlib.Core.Path.{◌≡◌, refl, sym, ap, ◌∙◌}
use mathlib.Core.Logic.{◌⊎◌, inl, inr}
use mathlib.Core.Bool.{true, and-eq-true_iff}
use mathlib.Core.List.{List, [], ◌∷◌, map}
use native.Mathlib.Omega.{arith}
use borrow.Author.Tests.{lt-ltb, ltb-true, eq-eqb, eqb-true}
use lib.Dec.{ltb, eqb}
use lib.ListN.{length, get_or, take, take-append-drop}
use lib.Seq.{take_at, drop_at}
use Rattle.texts.specs.Text.{is_letter, leading_count}
use Rattle.commands.specs.Line.{upper, verbs, verb_number, verb_of, after_verb, has_verb}
use Rattle.commands.specs.Refused.{BeginsWithVerb}
use Rattle.texts.proofs.Texts.{leading-append, all-leading}
use Rattle.commands.proofs.VerbTable.{number-from-is, own-number}

-- ---- a space follows, or nothing does

followed-first : (rest : List ℕ) → (rest ≡ []) ⊎ (get_or rest 0 0 ≡ 32) → (leading_count is_letter rest ≡ 0) × (get_or rest 0 32 ≡ 32)
unfolding leading_count
followed-first [] f = (refl, refl)
followed-first (b ∷ bs) (inl e) = absurd (let z : ◌≡◌ {A = ℕ} 0 1 = cc in omega arith)
followed-first (b ∷ bs) (inr e) = rw e (refl, refl)

first-followed : (rest : List ℕ) → get_or rest 0 32 ≡ 32 → (rest ≡ []) ⊎ (get_or rest 0 0 ≡ 32)
first-followed [] e = inl refl
first-followed (b ∷ bs) e = inr e

-- ---- a text that begins with a verb

module _ (text word rest : List ℕ) (v : ℕ) (b : BeginsWithVerb text word rest v) where
  pub run_is : leading_count is_letter text ≡ length word
  run_is = ap (leading_count is_letter) b.whole ∙ omega (arith, leading-append is_letter word rest b.verb_is.letters, (followed-first rest b.followed).0)

  pub after_is : after_verb text ≡ rest
  unfolding after_verb
  after_is = rw (run_is, b.whole) (drop_at word rest (length word) refl)

  pub verb_is : verb_of text ≡ v
  unfolding verb_of verb_number
  verb_is =
      let n = b.verb_is in
      let s : suc (v - 1) ≡ v = omega (arith, n.one_to_twelve) in
      rw (run_is, b.whole, take_at word rest (length word) refl, n.upper_case, own-number (v - 1) (omega (arith, n.one_to_twelve))) s

  pub begins-has-verb : has_verb text ≡ true
  unfolding has_verb
  begins-has-verb = rw (verb_is, lt-ltb 0 v b.verb_is.one_to_twelve.0, after_is, eq-eqb (get_or rest 0 32) 32 (followed-first rest b.followed).1)

-- ---- and the other way round

pub has-verb-begins : (text : List ℕ) → has_verb text ≡ true → BeginsWithVerb text (take (leading_count is_letter text) text) (after_verb text) (verb_of text)
unfolding has_verb after_verb verb_of verb_number
has-verb-begins text h =
    let word = take (leading_count is_letter text) text in
    let q = (and-eq-true_iff (ltb 0 (verb_of text)) (eqb (get_or (after_verb text) 0 32) 32)).0 h in
    let n = number-from-is 1 verbs (map upper word) (ltb-true 0 (verb_of text) q.0) in
    record {
      whole = sym (take-append-drop (leading_count is_letter text) text);
      verb_is = record { letters = all-leading is_letter text; one_to_twelve = (n.0, omega arith); upper_case = n.2 };
      followed = first-followed (after_verb text) (eqb-true (get_or (after_verb text) 0 32) 32 q.1);
    }
