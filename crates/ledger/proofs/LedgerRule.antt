-- The ledger rule in words, entry by entry, and the test: each gives the other. The places of the used pairs are those that the ledger holds.
use Prim.Native.Nat.{ℕ, zero, suc, ◌+◌, ◌*◌, ◌%◌, ◌≤◌, ◌<◌, max}
use mathlib.Core.Path.{◌≡◌, refl, sym, ap, ◌∙◌}
use mathlib.Core.Logic.{◌↔◌}
use mathlib.Core.Bool.{true, cond, and-eq-true_iff, false≢true}
use mathlib.Core.List.{List, [], ◌∷◌}
use native.Mathlib.Omega.{arith}
use native.Mathlib.Decide.{ℕ_discrete}
use borrow.Author.Tests.{lt-ltb, le-leb, ne_eqb, eqb-true}
use lib.Dec.{eqb}
use lib.ListN.{length, get_or}
use Rattle.ledger.specs.Pairs.{Pairs, none, pair, size, in_range, contains, ObeyFrom}
use Rattle.ledger.specs.Ledger.{all_zero, obeys_from, obeys, pairs_of, laid_out, Contains}
use Rattle.ledger.specs.Ledgers.{Obeys}
use Rattle.ledger.proofs.PairsPlaces.{in_range-in, in_range-le, Where, under, within, past, stand, holds-le}
use Rattle.ledger.proofs.PairsUnique.{ruled-unique}
use Rattle.ledger.proofs.LedgerLayout.{First, unused, used, rule-first, rule-ruled, laid_out-pairs_of, size-pairs_of}
use Rattle.ledger.proofs.PairsJoinSlot.{start_at, end_at}
use Rattle.ledger.proofs.PairsAsNumbers.{laid_out-start, laid_out-end}

-- the places 2 * k of a list with two entries in front
even-on : (k : ℕ) → 2 * suc k ≡ suc (suc (2 * k))
even-on k = omega arith

odd-on : (k : ℕ) → 2 * suc k + 1 ≡ suc (suc (2 * k + 1))
odd-on k = omega arith

-- ---- zeros

pub zeros-at : (l : List ℕ) (j : ℕ) → all_zero l ≡ true → get_or l j 0 ≡ 0
unfolding all_zero
zeros-at [] j h = refl
zeros-at (x ∷ xs) zero h = eqb-true x 0 ((and-eq-true_iff (eqb x 0) (all_zero xs)).0 h).0
zeros-at (x ∷ xs) (suc j) h = zeros-at xs j ((and-eq-true_iff (eqb x 0) (all_zero xs)).0 h).1

pub at-zeros : (l : List ℕ) → ((j : ℕ) → get_or l j 0 ≡ 0) → all_zero l ≡ true
unfolding all_zero
at-zeros [] h = refl
at-zeros (x ∷ xs) h = rw (h 0, at-zeros xs (λ j. h (suc j)))

-- ---- from the rule in words to the test

words-test : (lo r u : ℕ) (l : List ℕ) → length l ≡ 2 * r → u ≤ r → (0 < u → lo ≤ get_or l 0 0)
    → ((i : ℕ) → i < u → get_or l (2 * i) 0 < get_or l (2 * i + 1) 0) → ((i : ℕ) → suc i < u → get_or l (2 * i + 1) 0 < get_or l (2 * suc i) 0)
    → ((j : ℕ) → 2 * u ≤ j → get_or l j 0 ≡ 0) → obeys_from lo l ≡ true
unfolding obeys_from
words-test lo r u [] n h f o a z = refl
words-test lo r u (x ∷ []) n h f o a z = absurd (omega arith)
words-test lo r zero (x ∷ y ∷ l) n h f o a z =
    let even : length l % 2 ≡ 0 = omega arith in
    rw (z 0 (omega arith), z 1 (omega arith), even, at-zeros l (λ j. z (suc (suc j)) (omega arith)))
words-test lo zero (suc u) (x ∷ y ∷ l) n h f o a z = absurd (omega arith)
words-test lo (suc r) (suc u) (x ∷ y ∷ l) n h f o a z =
    rw (ne_eqb y 0 (λ q. omega (arith, o 0 (omega arith))), le-leb lo x (f (omega arith)), lt-ltb x y (o 0 (omega arith)))
    (words-test (suc y) r u l (omega arith) (omega arith) (λ q. a 0 (omega arith))
    (λ i q. rw (odd-on i, even-on i) at (o (suc i) (omega arith)))
    (λ i q. rw (odd-on i, even-on (suc i)) at (a (suc i) (omega arith)))
    (λ j q. z (suc (suc j)) (omega arith)))

-- ---- from the test to the rule in words

start-end : (lo i : ℕ) (ps : Pairs) → ObeyFrom lo ps → i < size ps → start_at i ps < end_at i ps
unfolding start_at end_at size
start-end lo i none c h = absurd (omega arith)
start-end lo zero (pair a b ps) c h = c.1
start-end lo (suc i) (pair a b ps) c h = start-end (suc b) i ps c.2 (omega arith)

end-start : (lo i : ℕ) (ps : Pairs) → ObeyFrom lo ps → suc i < size ps → end_at i ps < start_at (suc i) ps
unfolding start_at end_at size
end-start lo i none c h = absurd (omega arith)
end-start lo zero (pair a b none) c h = absurd (omega arith)
end-start lo zero (pair a b (pair x y ps)) c h = c.2.0
end-start lo (suc i) (pair a b ps) c h = end-start (suc b) i ps c.2 (omega arith)

laid_out-after : (r j : ℕ) (ps : Pairs) → 2 * size ps ≤ j → get_or (laid_out r ps) j 0 ≡ 0
unfolding laid_out size
laid_out-after zero j ps h = refl
laid_out-after (suc r) zero none h = refl
laid_out-after (suc r) (suc zero) none h = refl
laid_out-after (suc r) (suc (suc j)) none h = laid_out-after r j none (unfold size in omega arith)
laid_out-after (suc r) zero (pair a b ps) h = absurd (omega arith)
laid_out-after (suc r) (suc zero) (pair a b ps) h = absurd (omega arith)
laid_out-after (suc r) (suc (suc j)) (pair a b ps) h = laid_out-after r j ps (omega arith)

-- the entries of a ledger that obeys the rule are its pairs' starts and ends
module _ (r : ℕ) (l : List ℕ) (n : length l ≡ 2 * r) (o : obeys l ≡ true) where
  l-is : l ≡ laid_out r (pairs_of l)
  unfolding obeys
  l-is = laid_out-pairs_of r 0 l o n

  fits_in : size (pairs_of l) ≤ r
  fits_in = omega (arith, size-pairs_of l)

  pub start_is : (i : ℕ) → get_or l (2 * i) 0 ≡ start_at i (pairs_of l)
  start_is i = ap (λ z. get_or z (2 * i) 0) l-is ∙ laid_out-start r i (pairs_of l) fits_in

  pub end_is : (i : ℕ) → get_or l (2 * i + 1) 0 ≡ end_at i (pairs_of l)
  end_is i = ap (λ z. get_or z (2 * i + 1) 0) l-is ∙ laid_out-end r i (pairs_of l) fits_in

  pub test_words : Obeys r l
  unfolding obeys
  test_words =
      let c = rule-ruled 0 l o in
      record {
        used = size (pairs_of l);
        room = fits_in;
        ordered = λ i h. omega (arith, start_is i, end_is i, start-end 0 i (pairs_of l) c h);
        apart = λ i h. omega (arith, start_is (suc i), end_is i, end-start 0 i (pairs_of l) c h);
        zero_after = λ j h. ap (λ z. get_or z j 0) l-is ∙ laid_out-after r j (pairs_of l) h;
      }

pub test_is_rule : (r : ℕ) (l : List ℕ) → length l ≡ 2 * r → (obeys l ≡ true) ↔ Obeys r l
unfolding obeys
test_is_rule r l n =
    (test_words r l n, λ w. words-test 0 r w.used l n w.room (λ q. omega arith) w.ordered w.apart w.zero_after)

-- ---- the places

places-held : (p lo : ℕ) (l : List ℕ) → obeys_from lo l ≡ true → contains p (pairs_of l) ≡ 1 → Contains p l
unfolding pairs_of contains
places-held p lo [] h g = absurd (omega arith)
places-held p lo (a ∷ []) h g = absurd (omega arith)
places-held p lo (a ∷ b ∷ rest) h g = go (rule-first lo a b rest h) (places-held p (suc b) rest) g
  where
    go : First lo a b rest → (obeys_from (suc b) rest ≡ true → contains p (pairs_of rest) ≡ 1 → Contains p rest) → contains p (cond (eqb b 0) none (pair a b (pairs_of rest))) ≡ 1 → Contains p (a ∷ b ∷ rest)
    go (unused x y z) i k = absurd (omega (arith, rw y at k))
    go (used x y z) i k = at (stand a b p) (rw (ne_eqb b 0 (λ q. omega arith)) at k)
      where
        at : Where a b p → max (in_range a b p) (contains p (pairs_of rest)) ≡ 1 → Contains p (a ∷ b ∷ rest)
        at (within u v w) m = (0, u, v)
        at (under u v) m =
            let j = i z (omega arith) in
            (suc j.0, rw (even-on j.0) j.1, rw (odd-on j.0) j.2)
        at (past u v w) m =
            let j = i z (omega arith) in
            (suc j.0, rw (even-on j.0) j.1, rw (odd-on j.0) j.2)

held-places : (p lo k : ℕ) (l : List ℕ) → obeys_from lo l ≡ true → get_or l (2 * k) 0 ≤ p → p < get_or l (2 * k + 1) 0 → contains p (pairs_of l) ≡ 1
unfolding pairs_of contains
held-places p lo k [] h x y = absurd (omega arith)
held-places p lo k (a ∷ []) h x y = absurd (unfold obeys_from in false≢true h)
held-places p lo k (a ∷ b ∷ rest) h x y = go (rule-first lo a b rest h) k x y (λ j. held-places p (suc b) j rest)
  where
    go : First lo a b rest → (k : ℕ) → get_or (a ∷ b ∷ rest) (2 * k) 0 ≤ p → p < get_or (a ∷ b ∷ rest) (2 * k + 1) 0
        → ((j : ℕ) → obeys_from (suc b) rest ≡ true → get_or rest (2 * j) 0 ≤ p → p < get_or rest (2 * j + 1) 0 → contains p (pairs_of rest) ≡ 1)
        → contains p (cond (eqb b 0) none (pair a b (pairs_of rest))) ≡ 1
    go (unused u v w) zero x y i = absurd (omega arith)
    go (unused u v w) (suc k) x y i = absurd (omega (arith, rw (odd-on k) at y, zeros-at rest (2 * k + 1) w))
    go (used u v w) zero x y i = rw (ne_eqb b 0 (λ q. omega arith)) (omega (arith, in_range-in a b p x y, holds-le p (pairs_of rest)))
    go (used u v w) (suc k) x y i =
        rw (ne_eqb b 0 (λ q. omega arith)) (omega (arith, i k w (rw (even-on k) at x) (rw (odd-on k) at y), in_range-le a b p))

pub contains_places : (p : ℕ) (l : List ℕ) → obeys l ≡ true → (contains p (pairs_of l) ≡ 1) ↔ Contains p l
unfolding obeys
contains_places p l o = (places-held p 0 l o, λ w. held-places p 0 w.0 l o w.1 w.2)

pub only_one : (r : ℕ) (l m : List ℕ) → length l ≡ 2 * r → length m ≡ 2 * r → obeys l ≡ true → obeys m ≡ true → ((p : ℕ) → Contains p l ↔ Contains p m) → l ≡ m
unfolding obeys
only_one r l m n k o q h =
    laid_out-pairs_of r 0 l o n ∙ ap (laid_out r) (ruled-unique 0 (pairs_of l) (pairs_of m) (rule-ruled 0 l o) (rule-ruled 0 m q) same) ∙ sym (laid_out-pairs_of r 0 m q k)
  where
    same : (p : ℕ) → contains p (pairs_of l) ≡ contains p (pairs_of m)
    same p = go (ℕ_discrete (contains p (pairs_of l)) 1) (ℕ_discrete (contains p (pairs_of m)) 1)
      where
        go : Dec (contains p (pairs_of l) ≡ 1) → Dec (contains p (pairs_of m) ≡ 1) → contains p (pairs_of l) ≡ contains p (pairs_of m)
        go (yes x) d = x ∙ sym ((contains_places p m q).1 ((h p).0 ((contains_places p l o).0 x)))
        go (no x) (yes y) = absurd (x ((contains_places p l o).1 ((h p).1 ((contains_places p m q).0 y))))
        go (no x) (no y) = omega (arith, holds-le p (pairs_of l), holds-le p (pairs_of m))
