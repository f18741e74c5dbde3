-- Lying inside one pair, pairs inside those of another ledger, having no end above a place and having a pair, entry by entry of the ledger.
use Prim.Native.Nat.{ℕ, zero, suc, ◌+◌, ◌*◌, ◌≤◌, ◌<◌}
use mathlib.Core.Path.{◌≡◌, refl, sym}
use mathlib.Core.Logic.{◌↔◌}
use mathlib.Core.Bool.{Bool, true, false, cond, ◌&&◌, ◌||◌, or-true, true≢false, and-eq-true_iff}
use mathlib.Core.List.{List, [], ◌∷◌}
use native.Mathlib.Omega.{arith}
use native.Mathlib.Decide.{ℕ_discrete}
use borrow.Author.Tests.{lt-ltb, le-leb, leb-true, ne_eqb}
use lib.Dec.{leb, ltb, eqb}
use lib.ListN.{length, get_or}
use Rattle.ledger.specs.Pairs.{Pairs, none, pair, size, ObeyFrom, inside, all_inside, ends_at_most}
use Rattle.ledger.specs.Ledger.{obeys, pairs_of, has_pair}
use Rattle.ledger.proofs.PairsJoinSlot.{start_at, end_at}
use Rattle.ledger.proofs.LedgerLayout.{rule-ruled}
use Rattle.ledger.proofs.LedgerRule.{start_is, end_is}

inside-slot : (s e : ℕ) (ps : Pairs) → inside s e ps ≡ true → (i : ℕ) × (start_at i ps ≤ s) × (e ≤ end_at i ps)
unfolding inside start_at end_at
inside-slot s e none h = absurd (true≢false (sym h))
inside-slot s e (pair a b ps) h = go (leb a s && leb e b) refl h (inside-slot s e ps)
  where
    go : (t : Bool) → (leb a s && leb e b) ≡ t → (t || inside s e ps) ≡ true → (inside s e ps ≡ true → (i : ℕ) × (start_at i ps ≤ s) × (e ≤ end_at i ps))
        → (i : ℕ) × (start_at i (pair a b ps) ≤ s) × (e ≤ end_at i (pair a b ps))
    go true q k f = let z = (and-eq-true_iff (leb a s) (leb e b)).0 q in (0, leb-true a s z.0, leb-true e b z.1)
    go false q k f = let j = f k in (suc j.0, j.1, j.2)

slot_inside : (s e i : ℕ) (ps : Pairs) → s < e → start_at i ps ≤ s → e ≤ end_at i ps → inside s e ps ≡ true
unfolding inside start_at end_at
slot_inside s e i none h x y = absurd (omega arith)
slot_inside s e zero (pair a b ps) h x y = rw (le-leb a s x, le-leb e b y)
slot_inside s e (suc i) (pair a b ps) h x y = rw (slot_inside s e i ps h x y, or-true (leb a s && leb e b))

nested-slot : (ds ps : Pairs) → all_inside ds ps ≡ true → (i : ℕ) → 0 < end_at i ds → (j : ℕ) × (start_at j ps ≤ start_at i ds) × (end_at i ds ≤ end_at j ps)
unfolding all_inside start_at end_at
nested-slot none ps h i u = absurd (omega arith)
nested-slot (pair a b ds) ps h zero u = inside-slot a b ps ((and-eq-true_iff (inside a b ps) (all_inside ds ps)).0 h).0
nested-slot (pair a b ds) ps h (suc i) u = nested-slot ds ps ((and-eq-true_iff (inside a b ps) (all_inside ds ps)).0 h).1 i u

slot-nested : (lo : ℕ) (ds ps : Pairs) → ObeyFrom lo ds
    → ((i : ℕ) → 0 < end_at i ds → (j : ℕ) × (start_at j ps ≤ start_at i ds) × (end_at i ds ≤ end_at j ps)) → all_inside ds ps ≡ true
unfolding all_inside start_at end_at
slot-nested lo none ps c h = refl
slot-nested lo (pair a b ds) ps c h =
    let j = h 0 (omega (arith, c.1)) in
    rw (slot_inside a b j.0 ps c.1 j.1 j.2, slot-nested (suc b) ds ps c.2 (λ i u. h (suc i) u))

ends-slot : (f i : ℕ) (ps : Pairs) → ends_at_most f ps ≡ true → end_at i ps ≤ f
unfolding ends_at_most end_at
ends-slot f i none h = omega arith
ends-slot f zero (pair a b ps) h = leb-true b f ((and-eq-true_iff (leb b f) (ends_at_most f ps)).0 h).0
ends-slot f (suc i) (pair a b ps) h = ends-slot f i ps ((and-eq-true_iff (leb b f) (ends_at_most f ps)).0 h).1

slot-ends : (f : ℕ) (ps : Pairs) → ((i : ℕ) → end_at i ps ≤ f) → ends_at_most f ps ≡ true
unfolding ends_at_most end_at
slot-ends f none h = refl
slot-ends f (pair a b ps) h = rw (le-leb b f (h 0), slot-ends f ps (λ i. h (suc i)))

module _ (r : ℕ) (l : List ℕ) (n : length l ≡ 2 * r) (o : obeys l ≡ true) where
  pub inside-at : (s e : ℕ) → s < e → (inside s e (pairs_of l) ≡ true) ↔ ((i : ℕ) × (get_or l (2 * i) 0 ≤ s) × (e ≤ get_or l (2 * i + 1) 0))
  inside-at s e h = (
    λ k. let j = inside-slot s e (pairs_of l) k in (j.0, rw (start_is r l n o j.0) j.1, rw (end_is r l n o j.0) j.2),
    λ j. slot_inside s e j.0 (pairs_of l) h (rw (start_is r l n o j.0) at j.1) (rw (end_is r l n o j.0) at j.2),
  )

  pub ends_at : (f : ℕ) → (ends_at_most f (pairs_of l) ≡ true) ↔ ((i : ℕ) → get_or l (2 * i + 1) 0 ≤ f)
  ends_at f = (
    λ h i. rw (end_is r l n o i) (ends-slot f i (pairs_of l) h),
    λ h. slot-ends f (pairs_of l) (λ i. rw (end_is r l n o i) at (h i)),
  )

pub nested-at : (r : ℕ) (l d : List ℕ) → length l ≡ 2 * r → length d ≡ 2 * r → obeys l ≡ true → obeys d ≡ true
    → (all_inside (pairs_of d) (pairs_of l) ≡ true) ↔ ((i : ℕ) → 0 < get_or d (2 * i + 1) 0 → (j : ℕ) × (get_or l (2 * j) 0 ≤ get_or d (2 * i) 0) × (get_or d (2 * i + 1) 0 ≤ get_or l (2 * j + 1) 0))
unfolding obeys
nested-at r l d n m o q = (
  λ h i u.
      let j = nested-slot (pairs_of d) (pairs_of l) h i (rw (end_is r d m q i) at u) in
      (j.0, rw (start_is r l n o j.0, start_is r d m q i) j.1, rw (end_is r l n o j.0, end_is r d m q i) j.2),
  λ h. slot-nested 0 (pairs_of d) (pairs_of l) (rule-ruled 0 d q) (λ i u.
      let j = h i (rw (end_is r d m q i) u) in
      (j.0, rw (start_is r l n o j.0, start_is r d m q i) at j.1, rw (end_is r l n o j.0, end_is r d m q i) at j.2)),
)

pub has-pair-size : (l : List ℕ) → has_pair l ≡ ltb 0 (size (pairs_of l))
unfolding has_pair pairs_of size
has-pair-size [] = refl
has-pair-size (a ∷ []) = refl
has-pair-size (a ∷ b ∷ rest) = go (ℕ_discrete b 0)
  where
    go : Dec (b ≡ 0) → ltb 0 b ≡ ltb 0 (size (cond (eqb b 0) none (pair a b (pairs_of rest))))
    go (yes e) = rw e
    go (no n) = rw (ne_eqb b 0 n, lt-ltb 0 b (omega arith)) (sym (lt-ltb 0 (suc (size (pairs_of rest))) (omega arith)))
