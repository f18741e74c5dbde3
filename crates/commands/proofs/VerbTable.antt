-- Words compared letter by letter, and searched in the table of verbs; the code's table; the verbs that take no argument.
use Prim.Native.Nat.{ℕ, zero, suc, ◌+◌, ◌-◌, ◌≤◌, ◌<◌}
use mathlib.Core.Path.{◌≡◌, refl, sym, ap, ◌∙◌}
use mathlib.Core.Logic.{inl, inr, ⊎_elim}
use mathlib.Core.Bool.{Bool, true, false, ◌&&◌, and-eq-true_iff, not-eq-not}
use mathlib.Core.List.{List, [], ◌∷◌, map}
use native.Mathlib.Omega.{arith}
use native.Mathlib.Numerals.{add-one}
use native.Mathlib.Decide.{ℕ_discrete}
use borrow.Author.Tests.{ne_eqb, eqb-true}
use lib.Dec.{eqb}
use lib.ListN.{length, get_or, drop, length-map}
use lib.Seq.{drop-cons}
use Rattle.texts.specs.Text.{is_letter, all}
use Rattle.std.specs.Bool.{Decides}
use Rattle.std.specs.List.{zip}
use Rattle.std.specs.Char.{to_ascii_uppercase}
use Rattle.std.specs.Str.{bytes_eq}
use Rattle.std.proofs.lemmas.Bool.Decides.{nat_tests, not_from_Decides}
use Rattle.std.proofs.lemmas.Slice.Eq.{compares_Decides, bytes_eq-Decides}
use Rattle.commands.specs.Line.{upper, verbs, number_of, takes_no_argument, equal_texts, verb_number_from, verb_number}
use Rattle.commands.specs.declared.line.Verb.{Verb}
use Rattle.commands.specs.declared.line.Verb.TheVariants.{Mode, Pasv, Port, Rest, Retr, Stor, Spas, Spor, Eret, Esto, Sbuf, Opts}
use Rattle.commands.specs.Accepted.{TakesNoArgument}

-- ---- two words

equal_is : (x y : List ℕ) → Decides (equal_texts x y) (x ≡ y)
unfolding equal_texts
equal_is = compares_Decides equal_texts (record { empty = refl; shorter = λ y ys. refl; longer = λ x xs. refl; heads = λ x y xs ys. refl })

-- a letter made upper case, in the code's word and in the rule's
capital : (b : ℕ) → to_ascii_uppercase b ≡ upper b
capital b = grind (arith, nat_tests)

pub capitals : (word : List ℕ) → map to_ascii_uppercase word ≡ map upper word
capitals [] = refl
capitals (b ∷ word) = rw (capital b, capitals word)

-- ---- the place in a table

pub number-from-found : (vs : List (List ℕ)) (word : List ℕ) (v : ℕ) → v < length vs → equal_texts word (get_or vs v []) ≡ true
    → verb_number_from (v + 1) (drop v vs) word ≡ v + 1
unfolding verb_number_from
number-from-found vs word v h e = rw (drop-cons vs v [], e)

pub number-from-next : (vs : List (List ℕ)) (word : List ℕ) (v : ℕ) → v < length vs → equal_texts word (get_or vs v []) ≡ false
    → verb_number_from (v + 1) (drop v vs) word ≡ verb_number_from (v + 1 + 1) (drop (v + 1) vs) word
unfolding verb_number_from
number-from-next vs word v h e = rw (drop-cons vs v [], e, add-one v, add-one (suc v))

-- the number of a listed word is its place
pub number-from-is : (n : ℕ) (vs : List (List ℕ)) (word : List ℕ) → 0 < verb_number_from n vs word
    → (n ≤ verb_number_from n vs word) × (verb_number_from n vs word < n + length vs) × (word ≡ get_or vs (verb_number_from n vs word - n) [])
unfolding verb_number_from
number-from-is n [] word h = absurd (omega arith)
number-from-is n (v ∷ vs) word h = go (equal_texts word v) refl (number-from-is (suc n) vs word)
  where
    Named : ℕ → List (List ℕ) → ℕ → Type 0
    Named n vs k = (n ≤ k) × (k < n + length vs) × (word ≡ get_or vs (k - n) [])

    go : (b : Bool) → equal_texts word v ≡ b → (0 < verb_number_from (suc n) vs word → Named (suc n) vs (verb_number_from (suc n) vs word)) → Named n (v ∷ vs) (verb_number_from n (v ∷ vs) word)
    go true e ih =
        let z : n - n ≡ 0 = omega arith in
        rw (e, z) (omega arith, omega arith, (equal_is word v).0 e)
    go false e ih =
        let k = verb_number_from (suc n) vs word in
        let r = ih (rw e at h) in
        let z : k - n ≡ suc (k - suc n) = omega arith in
        rw (e, z) (omega arith, omega arith, r.2)

-- ---- what every verb of the table has, by computation

unfoldable all_below : (ℕ → Bool) → ℕ → Bool
all_below p zero = true
all_below p (suc n) = p n && all_below p n

each_below : (p : ℕ → Bool) (n : ℕ) → all_below p n ≡ true → (v : ℕ) → v < n → p v ≡ true
unfolding all_below
each_below p zero e v h = absurd (omega arith)
each_below p (suc n) e v h =
    let q = (and-eq-true_iff (p n) (all_below p n)).0 e in
    go q.0 (each_below p n q.1 v) (ℕ_discrete v n)
  where
    go : p n ≡ true → (v < n → p v ≡ true) → Dec (v ≡ n) → p v ≡ true
    go here below (yes i) = rw i here
    go here below (no i) = below (omega arith)

pub four-letters : (v : ℕ) → v < 12 → length (get_or verbs v []) ≡ 4
unfolding all_below
four-letters v h = eqb-true (length (get_or verbs v [])) 4 (each_below (λ v. eqb (length (get_or verbs v [])) 4) 12 refl v h)

pub own-number : (v : ℕ) → v < 12 → verb_number_from 1 verbs (get_or verbs v []) ≡ suc v
unfolding all_below verb_number_from equal_texts
own-number v h = eqb-true (verb_number_from 1 verbs (get_or verbs v [])) (suc v) (each_below (λ v. eqb (verb_number_from 1 verbs (get_or verbs v [])) (suc v)) 12 refl v h)

-- every verb is capital letters
pub own-letters : (v : ℕ) → v < 12 → all is_letter (get_or verbs v []) ≡ true
unfolding all_below all
own-letters v h = each_below (λ v. all is_letter (get_or verbs v [])) 12 refl v h

pub own-capitals : (v : ℕ) → v < 12 → map upper (get_or verbs v []) ≡ get_or verbs v []
unfolding all_below equal_texts
own-capitals v h = (equal_is (map upper (get_or verbs v [])) (get_or verbs v [])).0 (each_below (λ v. equal_texts (map upper (get_or verbs v [])) (get_or verbs v [])) 12 refl v h)

-- the code's table of verbs, and its entry v
abbrev pub coded : List (List ℕ × Verb)
coded = zip verbs (Mode ∷ Pasv ∷ Port ∷ Rest ∷ Retr ∷ Stor ∷ Spas ∷ Spor ∷ Eret ∷ Esto ∷ Sbuf ∷ Opts ∷ [])

abbrev pub entry : ℕ → List ℕ × Verb
entry v = get_or coded v ([], Mode)

name_is : (v : ℕ) → v < 12 → (entry v).0 ≡ get_or verbs v []
unfolding all_below equal_texts
name_is v h = (equal_is (entry v).0 (get_or verbs v [])).0 (each_below (λ v. equal_texts (entry v).0 (get_or verbs v [])) 12 refl v h)

number_is : (v : ℕ) → v < 12 → number_of (entry v).1 ≡ v + 1
unfolding all_below
number_is v h = eqb-true (number_of (entry v).1) (v + 1) (each_below (λ v. eqb (number_of (entry v).1) (v + 1)) 12 refl v h)

-- a word in capital letters is compared with a verb's name
module _ (word : List ℕ) (v : ℕ) (h : v < 12) where
  pub listed : bytes_eq (entry v).0 word ≡ true → verb_number_from (v + 1) (drop v verbs) word ≡ number_of (entry v).1
  listed e =
      let same : (entry v).0 ≡ word = (bytes_eq-Decides (entry v).0 word).0 e in
      number-from-found verbs word v h ((equal_is word (get_or verbs v [])).1 (sym same ∙ name_is v h)) ∙ sym (number_is v h)

  pub not-listed : bytes_eq (entry v).0 word ≡ false → verb_number_from (v + 1) (drop v verbs) word ≡ verb_number_from (v + 1 + 1) (drop (v + 1) verbs) word
  not-listed n =
      number-from-next verbs word v h
      ((not-eq-not {b = false}).0 (λ e. not_from_Decides _ (bytes_eq-Decides (entry v).0 word) n (name_is v h ∙ sym ((equal_is word (get_or verbs v [])).0 e))))

-- a verb has four letters
pub not-four : (word : List ℕ) → (length word ≡ 4 → ⊥) → 0 ≡ verb_number word
unfolding verb_number
not-four word n = go (ℕ_discrete (verb_number_from 1 verbs (map upper word)) 0)
  where
    go : Dec (verb_number_from 1 verbs (map upper word) ≡ 0) → 0 ≡ verb_number_from 1 verbs (map upper word)
    go (yes e) = sym e
    go (no e) =
        let r = number-from-is 1 verbs (map upper word) (omega arith) in
        absurd (n (sym (length-map word upper) ∙ ap length r.2 ∙ four-letters (verb_number_from 1 verbs (map upper word) - 1) (omega arith)))

-- ---- PASV and SPAS

pub no-argument-true : (v : ℕ) → TakesNoArgument v → takes_no_argument v ≡ true
no-argument-true v (inl e) = rw e
no-argument-true v (inr e) = rw e

pub no-argument-false : (v : ℕ) → (TakesNoArgument v → ⊥) → takes_no_argument v ≡ false
no-argument-false v n = rw (ne_eqb v 2 (λ e. n (inl e)), ne_eqb v 7 (λ e. n (inr e)))

pub no-argument-dec : (v : ℕ) → Dec (TakesNoArgument v)
no-argument-dec v = go (ℕ_discrete v 2) (ℕ_discrete v 7)
  where
    go : Dec (v ≡ 2) → Dec (v ≡ 7) → Dec (TakesNoArgument v)
    go (yes a) b = yes (inl a)
    go (no a) (yes b) = yes (inr b)
    go (no a) (no b) = no (⊎_elim a b)
