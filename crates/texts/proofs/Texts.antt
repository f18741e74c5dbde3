-- The laws of kinds of bytes: a byte between two bounds, texts whose every byte is of a kind, and the bytes of a kind that a text begins with.
use Prim.Native.Nat.{ℕ, zero, suc, ◌+◌, ◌≤◌, ◌<◌}
use mathlib.Core.Path.{◌≡◌, refl, sym, ◌∙◌}
use mathlib.Core.Logic.{◌⊎◌, inl, inr}
use mathlib.Core.Bool.{Bool, true, false, cond, ◌&&◌, and_assoc, and-eq-true_iff, and-false, true≢false}
use mathlib.Core.List.{List, [], ◌∷◌, ◌++◌}
use native.Mathlib.Omega.{arith}
use native.Mathlib.Numerals.{add-one, one-add}
use native.Mathlib.Decide.{dec_lt}
use borrow.Author.Tests.{le-leb, lt-leb, leb-true}
use lib.Dec.{leb}
use lib.ListN.{length, get_or, take, drop, take-append-drop, drop_of_length-le}
use lib.Seq.{drop-cons, take-suc}
use Rattle.std.specs.List.{prefix_len}
use Rattle.texts.specs.Text.{between, all, leading_count}

-- ---- a byte between two bounds

module _ (low high b : ℕ) where
  pub between-true : low ≤ b → b ≤ high → between low high b ≡ true
  between-true l h = rw (le-leb low b l, le-leb b high h)

  pub between-false : (b < low) ⊎ (high < b) → between low high b ≡ false
  between-false (inl l) = rw (lt-leb low b l)
  between-false (inr h) = rw (lt-leb b high h) (and-false (leb low b))

  pub true-between : between low high b ≡ true → (low ≤ b) × (b ≤ high)
  true-between e =
      let p = (and-eq-true_iff (leb low b) (leb b high)).0 e in
      (leb-true low b p.0, leb-true b high p.1)

  pub false-between : between low high b ≡ false → (b < low) ⊎ (high < b)
  false-between e = go (dec_lt b low) (dec_lt high b)
    where
      go : Dec (b < low) → Dec (high < b) → (b < low) ⊎ (high < b)
      go (yes l) h = inl l
      go (no l) (yes h) = inr h
      go (no l) (no h) = absurd (true≢false (sym (between-true (omega arith) (omega arith)) ∙ e))

module _ (kind : ℕ → Bool) where
  -- ---- every byte is of a kind

  pub all_append : (xs ys : List ℕ) → all kind (xs ++ ys) ≡ (all kind xs && all kind ys)
  unfolding all
  all_append [] ys = refl
  all_append (x ∷ xs) ys = rw (all_append xs ys) (sym (and_assoc (kind x) (all kind xs) (all kind ys)))

  pub all_drop : (text : List ℕ) (n : ℕ) → all kind text ≡ true → all kind (drop n text) ≡ true
  all_drop text n h =
      let e : (all kind (take n text) && all kind (drop n text)) ≡ true = rw (← all_append (take n text) (drop n text), take-append-drop n text) h in
      ((and-eq-true_iff (all kind (take n text)) (all kind (drop n text))).0 e).1

  -- one byte more
  pub all_more : (text : List ℕ) (i : ℕ) → i < length text → kind (get_or text i 0) ≡ true → all kind (take i text) ≡ true → all kind (take (i + 1) text) ≡ true
  unfolding all
  all_more text i h e a = rw (add-one i, take-suc text i 0, all_append (take i text) (get_or text i 0 ∷ []), e, a)

  -- byte by byte
  pub each_all : (text : List ℕ) → ((i : ℕ) → i < length text → kind (get_or text i 0) ≡ true) → all kind text ≡ true
  unfolding all
  each_all [] h = refl
  each_all (b ∷ bs) h = rw (h 0 (omega arith), each_all bs (λ i g. h (suc i) (omega arith)))

  pub all-each : (text : List ℕ) → all kind text ≡ true → (i : ℕ) → i < length text → kind (get_or text i 0) ≡ true
  unfolding all
  all-each [] h i l = absurd (omega arith)
  all-each (b ∷ bs) h zero l = ((and-eq-true_iff (kind b) (all kind bs)).0 h).0
  all-each (b ∷ bs) h (suc i) l = all-each bs ((and-eq-true_iff (kind b) (all kind bs)).0 h).1 i (omega arith)

  -- a byte of another kind
  pub all-not : (text : List ℕ) (i : ℕ) → i < length text → kind (get_or text i 0) ≡ false → all kind text ≡ false
  unfolding all
  all-not [] i h e = absurd (omega arith)
  all-not (b ∷ bs) zero h e = rw e
  all-not (b ∷ bs) (suc i) h e = rw (all-not bs i (omega arith) e) (and-false (kind b))

  -- ---- the bytes of a kind that a text begins with

  -- as std counts them
  pub prefix_is : (text : List ℕ) → prefix_len kind text ≡ leading_count kind text
  unfolding leading_count
  prefix_is [] = refl
  prefix_is (b ∷ bs) = rw (prefix_is bs, one-add (leading_count kind bs))

  pub leading_le : (text : List ℕ) → leading_count kind text ≤ length text
  unfolding leading_count
  leading_le [] = omega arith
  leading_le (b ∷ bs) = go (kind b) (leading_le bs)
    where
      go : (k : Bool) → leading_count kind bs ≤ length bs → cond k (suc (leading_count kind bs)) 0 ≤ suc (length bs)
      go true h = omega arith
      go false h = omega arith

  -- from a place on: at a byte of another kind, and at the end
  pub leading-stops : (text : List ℕ) (i : ℕ) → i < length text → kind (get_or text i 0) ≡ false → leading_count kind (drop i text) ≡ 0
  unfolding leading_count
  leading-stops text i h e = rw (drop-cons text i 0, e)

  pub leading-ends : (text : List ℕ) (i : ℕ) → length text ≤ i → leading_count kind (drop i text) ≡ 0
  unfolding leading_count
  leading-ends text i h = rw (drop_of_length-le text h)

  pub leading-append : (word rest : List ℕ) → all kind word ≡ true → leading_count kind (word ++ rest) ≡ length word + leading_count kind rest
  unfolding all leading_count
  leading-append [] rest h = omega arith
  leading-append (b ∷ bs) rest h =
      let p = (and-eq-true_iff (kind b) (all kind bs)).0 h in
      rw p.0 (omega (arith, leading-append bs rest p.1))

  -- they are of the kind
  pub all-leading : (text : List ℕ) → all kind (take (leading_count kind text) text) ≡ true
  unfolding all leading_count
  all-leading [] = refl
  all-leading (b ∷ bs) = go (kind b) refl (all-leading bs)
    where
      go : (k : Bool) → kind b ≡ k → all kind (take (leading_count kind bs) bs) ≡ true → all kind (take (cond k (suc (leading_count kind bs)) 0) (b ∷ bs)) ≡ true
      go true e h = rw (e, h)
      go false e h = refl

  pub leading-each : (text : List ℕ) (i : ℕ) → i < leading_count kind text → kind (get_or text i 0) ≡ true
  unfolding leading_count
  leading-each [] i h = absurd (omega arith)
  leading-each (b ∷ bs) i h = go (kind b) refl i h (leading-each bs)
    where
      go : (k : Bool) → kind b ≡ k → (i : ℕ) → i < cond k (suc (leading_count kind bs)) 0 → ((j : ℕ) → j < leading_count kind bs → kind (get_or bs j 0) ≡ true) → kind (get_or (b ∷ bs) i 0) ≡ true
      go true e zero h on = e
      go true e (suc j) h on = on j (omega arith)
      go false e i h on = absurd (omega arith)

  -- and the byte after them is not
  pub after-leading : (text : List ℕ) → leading_count kind text < length text → kind (get_or text (leading_count kind text) 0) ≡ false
  unfolding leading_count
  after-leading [] h = absurd (omega arith)
  after-leading (b ∷ bs) h = go (kind b) refl h (after-leading bs)
    where
      go : (k : Bool) → kind b ≡ k → cond k (suc (leading_count kind bs)) 0 < suc (length bs) → (leading_count kind bs < length bs → kind (get_or bs (leading_count kind bs) 0) ≡ false)
          → kind (get_or (b ∷ bs) (cond k (suc (leading_count kind bs)) 0) 0) ≡ false
      go true e h on = on (omega arith)
      go false e h on = e

  pub leading-rest : (text : List ℕ) → leading_count kind (drop (leading_count kind text) text) ≡ 0
  leading-rest text = go (dec_lt (leading_count kind text) (length text))
    where
      go : Dec (leading_count kind text < length text) → leading_count kind (drop (leading_count kind text) text) ≡ 0
      go (yes h) = leading-stops text (leading_count kind text) h (after-leading text h)
      go (no h) = leading-ends text (leading_count kind text) (omega arith)

  -- every byte is of the kind where so many bytes are as the text has
  pub leading-whole : (text : List ℕ) → length text ≤ leading_count kind text → all kind text ≡ true
  leading-whole text h = each_all text (λ i l. leading-each text i (omega arith))

  pub leading-short : (text : List ℕ) → leading_count kind text < length text → all kind text ≡ false
  leading-short text h = all-not text (leading_count kind text) h (after-leading text h)
