-- A pair of entries at a place of the lent list: what the rule, the used pairs and the zeros say there.
use Prim.Native.Nat.{ℕ, suc, ◌+◌, ◌%◌, ◌≤◌, ◌<◌}
use mathlib.Core.Logic.{◌⊎◌, inl, inr}
use mathlib.Core.Path.{◌≡◌, refl, sym, ◌∙◌}
use mathlib.Core.Bool.{Bool, true, false, ◌&&◌, and-true, and-false, and_assoc}
use mathlib.Core.List.{List, [], ◌∷◌}
use native.Mathlib.Omega.{arith}
use native.Mathlib.Numerals.{add-one, add-two}
use native.Mathlib.Decide.{dec_lt, dec_le}
use borrow.Author.Tests.{lt-ltb, le-ltb, le-leb, lt-leb, eq-eqb, ne_eqb}
use lib.Dec.{leb, ltb, eqb}
use lib.ListN.{length, get_or, drop, length-drop, get_or-eq_default}
use lib.Seq.{drop-cons}
use Rattle.ledger.specs.Pairs.{none, pair, ends_at_most}
use Rattle.ledger.specs.Ledger.{all_zero, obeys_from, pairs_of}

pub two-of : (l : List ℕ) (i : ℕ) → i + 1 < length l → drop i l ≡ get_or l i 0 ∷ get_or l (i + 1) 0 ∷ drop (i + 2) l
two-of l i h =
    let h₁ : i < length l = omega arith in
    let h₂ : suc i < length l = omega arith in
    rw (drop-cons l i 0 h₁, drop-cons l (suc i) 0 h₂, add-one i, add-two i)

pub pairs-unused : (l : List ℕ) (i : ℕ) → i + 1 < length l → get_or l (i + 1) 0 ≡ 0 → pairs_of (drop i l) ≡ none
unfolding pairs_of
pairs-unused l i h e = rw (two-of l i h, eq-eqb (get_or l (i + 1) 0) 0 e)

pub pairs-used : (l : List ℕ) (i : ℕ) → i + 1 < length l → (get_or l (i + 1) 0 ≡ 0 → ⊥)
    → pairs_of (drop i l) ≡ pair (get_or l i 0) (get_or l (i + 1) 0) (pairs_of (drop (i + 2) l))
unfolding pairs_of
pairs-used l i h n = rw (two-of l i h, ne_eqb (get_or l (i + 1) 0) 0 n)

pub first_unused : (l : List ℕ) → get_or l 1 0 ≡ 0 → pairs_of l ≡ none
unfolding pairs_of
first_unused [] e = refl
first_unused (a ∷ []) e = refl
first_unused (a ∷ b ∷ r) e = rw e

-- fewer than two entries are no pair
pub pairs-over : (l : List ℕ) (i : ℕ) → length l ≤ i + 1 → pairs_of (drop i l) ≡ none
unfolding pairs_of
pairs-over l i h = go (drop i l) (omega (arith, length-drop i l))
  where
    go : (r : List ℕ) → length r ≤ 1 → pairs_of r ≡ none
    go [] k = refl
    go (a ∷ []) k = refl
    go (a ∷ b ∷ r) k = absurd (omega arith)

pub used-inside : (l : List ℕ) (i : ℕ) → 0 < get_or l (i + 1) 0 → i + 1 < length l
used-inside l i h = go (dec_lt (i + 1) (length l))
  where
    go : Dec (i + 1 < length l) → i + 1 < length l
    go (yes k) = k
    go (no k) = absurd (omega (arith, h, get_or-eq_default l 0 {n = i + 1} (omega arith)))

-- ---- the rule and the ends, tested together

-- what the rule and the limit f ask of pairs from the place lo on
unfoldable pub sound : ℕ → ℕ → List ℕ → Bool
sound lo f l = obeys_from lo l && ends_at_most f (pairs_of l)

-- and of pairs after one that ends at `end`, that end included
unfoldable pub sound_after : ℕ → ℕ → List ℕ → Bool
sound_after end f l = leb end f && sound (suc end) f l

-- no pair is used: all that is left are zeros, in pairs
pub sound-rest : (lo f : ℕ) (l : List ℕ) → get_or l 1 0 ≡ 0 → sound lo f l ≡ (all_zero l && eqb (length l % 2) 0)
unfolding sound obeys_from all_zero ends_at_most pairs_of
sound-rest lo f [] e = refl
sound-rest lo f (a ∷ []) e = sym (and-false (eqb a 0 && true))
sound-rest lo f (a ∷ b ∷ r) e =
    let m : suc (suc (length r)) % 2 ≡ length r % 2 = omega arith in
    rw (e, m) (and-true (eqb a 0 && (all_zero r && eqb (length r % 2) 0)) ∙ sym (and_assoc (eqb a 0) (all_zero r) (eqb (length r % 2) 0)))

module _ (lo f a b : ℕ) (r : List ℕ) (u : 0 < b) where
  n : b ≡ 0 → ⊥
  n z = omega arith

  sound-not : (leb lo a && ltb a b) ≡ false → sound lo f (a ∷ b ∷ r) ≡ false
  unfolding sound obeys_from
  sound-not e = rw (ne_eqb b 0 n, ← and_assoc (leb lo a) (ltb a b) (obeys_from (suc b) r), e)

  -- the pair starts too low
  sound-low : a < lo → sound lo f (a ∷ b ∷ r) ≡ false
  sound-low h = sound-not (rw (lt-leb lo a h))

  -- it does not end above its start
  pub sound-turned : b ≤ a → sound lo f (a ∷ b ∷ r) ≡ false
  sound-turned h = sound-not (rw (le-ltb a b h, and-false (leb lo a)))

  -- it is where it may be
  pub sound-next : lo ≤ a → a < b → sound lo f (a ∷ b ∷ r) ≡ sound_after b f r
  unfolding sound sound_after obeys_from ends_at_most pairs_of
  sound-next h k = rw (ne_eqb b 0 n, le-leb lo a h, lt-ltb a b k) (first (leb b f) (obeys_from (suc b) r) (ends_at_most f (pairs_of r)))
    where
      first : (x y z : Bool) → (y && (x && z)) ≡ (x && (y && z))
      first true y z = refl
      first false y z = and-false y

-- the same after a pair that ends at `end`
module _ (end f a b : ℕ) (r : List ℕ) (u : 0 < b) where
  after-low : a ≤ end → sound_after end f (a ∷ b ∷ r) ≡ false
  unfolding sound_after
  after-low h = rw (sound-low (suc end) f a b r u (omega arith)) (and-false (leb end f))

  after-turned : b ≤ a → sound_after end f (a ∷ b ∷ r) ≡ false
  unfolding sound_after
  after-turned h = rw (sound-turned (suc end) f a b r u h) (and-false (leb end f))

  pub after_next : end < a → a < b → sound_after end f (a ∷ b ∷ r) ≡ sound_after b f r
  unfolding sound_after
  after_next h k = rw (sound-next (suc end) f a b r u h k) (go (dec_le b f))
    where
      go : Dec (b ≤ f) → (leb end f && sound_after b f r) ≡ sound_after b f r
      go (yes m) = rw (le-leb end f (omega arith))
      go (no m) = rw (lt-leb b f (omega arith)) (and-false (leb end f))

  pub after-wrong : (a ≤ end) ⊎ (b ≤ a) → sound_after end f (a ∷ b ∷ r) ≡ false
  after-wrong (inl h) = after-low h
  after-wrong (inr h) = after-turned h
