-- A range and pairs: sharing a place, lying inside one pair, and what a range apart from the pairs adds to their total.
use Prim.Native.Nat.{ℕ, zero, suc, ◌+◌, ◌-◌, ◌≤◌, ◌<◌, min, max}
use mathlib.Core.Path.{◌≡◌, refl, sym, ◌∙◌}
use mathlib.Core.Logic.{◌⊎◌, inl, inr, ⊎_elim}
use mathlib.Core.Bool.{Bool, true, false, ◌&&◌, ◌||◌, or-true, true≢false, and-eq-true_iff}
use native.Mathlib.Omega.{arith}
use native.Mathlib.Decide.{dec_le, dec_lt}
use borrow.Author.Tests.{lt-ltb, le-ltb, le-leb, ltb-false, leb-true}
use lib.Dec.{leb, ltb}
use Rattle.ledger.specs.Pairs.{Pairs, none, pair, total, in_range, contains, ObeyFrom, join, overlaps, inside, ends_at_most}
use Rattle.ledger.specs.Ledgers.{count_below}
use Rattle.ledger.proofs.PairsPlaces.{in_range-in, in_range-past, in_range-le, Where, under, within, past, stand, holds-le, holds-below}
use Rattle.ledger.proofs.PairsJoin.{join-holds, join-ruled, join-ends}

-- ---- sharing is a common place

-- two ranges of which one ends before the other begins
pub apart : (s e a b p : ℕ) → (e ≤ a) ⊎ (b ≤ s) → in_range s e p + in_range a b p ≤ 1
apart s e a b p u = go (stand s e p) (stand a b p)
  where
    go : Where s e p → Where a b p → in_range s e p + in_range a b p ≤ 1
    go (within x y w) (within x' y' w') = absurd (⊎_elim (λ (q : e ≤ a). omega arith) (λ (q : b ≤ s). omega arith) u)
    go (within x y w) (under x' y') = omega arith
    go (within x y w) (past x' y' w') = omega arith
    go (under x y) w = omega (arith, in_range-le a b p)
    go (past x y z) w = omega (arith, in_range-le a b p)

pub shares-none : (s e p : ℕ) (ps : Pairs) → overlaps s e ps ≡ false → in_range s e p + contains p ps ≤ 1
unfolding overlaps contains
shares-none s e p none h = omega (arith, in_range-le s e p)
shares-none s e p (pair a b ps) h = at (ltb s b) (ltb a e) (overlaps s e ps) refl refl refl h (shares-none s e p ps)
  where
    meet : (e ≤ a) ⊎ (b ≤ s) → in_range s e p + contains p ps ≤ 1 → in_range s e p + max (in_range a b p) (contains p ps) ≤ 1
    meet u i = omega (arith, apart s e a b p u)

    at : (u v k : Bool) → ltb s b ≡ u → ltb a e ≡ v → overlaps s e ps ≡ k → ((u && v) || k) ≡ false → (overlaps s e ps ≡ false → in_range s e p + contains p ps ≤ 1)
        → in_range s e p + max (in_range a b p) (contains p ps) ≤ 1
    at u v true x y z q i = absurd (true≢false (sym (or-true (u && v)) ∙ q))
    at true true false x y z q i = absurd (true≢false q)
    at true false false x y z q i = meet (inl (ltb-false a e y)) (i z)
    at false v false x y z q i = meet (inr (ltb-false s b x)) (i z)

pub none-shares : (s e lo : ℕ) (ps : Pairs) → s < e → ObeyFrom lo ps → ((p : ℕ) → in_range s e p + contains p ps ≤ 1) → overlaps s e ps ≡ false
unfolding overlaps contains
none-shares s e lo none h c d = refl
none-shares s e lo (pair a b ps) h c d = go (none-shares s e (suc b) ps h c.2 (λ p. omega (arith, d p))) (dec_lt s b) (dec_lt a e)
  where
    go : overlaps s e ps ≡ false → Dec (s < b) → Dec (a < e) → ((ltb s b && ltb a e) || overlaps s e ps) ≡ false
    go on (no x) k = rw (le-ltb s b (omega arith), on)
    go on (yes x) (no y) = rw (lt-ltb s b x, le-ltb a e (omega arith), on)
    go on (yes x) (yes y) =
        absurd (omega (arith, d (max s a), in_range-in s e (max s a) (omega arith) (omega arith), in_range-in a b (max s a) (omega arith) (omega (arith, c.1))))

-- a place that a range shares with the pairs
pub shares-some : (s e lo : ℕ) (ps : Pairs) → s < e → ObeyFrom lo ps → overlaps s e ps ≡ true → (p : ℕ) × (s ≤ p) × (p < e) × (contains p ps ≡ 1)
unfolding overlaps contains
shares-some s e lo none h c q = absurd (true≢false (sym q))
shares-some s e lo (pair a b ps) h c q = go (dec_lt s b) (dec_lt a e) q (λ y. shares-some s e (suc b) ps h c.2 y)
  where
    go : Dec (s < b) → Dec (a < e) → ((ltb s b && ltb a e) || overlaps s e ps) ≡ true
        → (overlaps s e ps ≡ true → (p : ℕ) × (s ≤ p) × (p < e) × (contains p ps ≡ 1)) → (p : ℕ) × (s ≤ p) × (p < e) × (max (in_range a b p) (contains p ps) ≡ 1)
    go (yes x) (yes y) z i = (max s a, omega arith, omega arith, omega (arith, in_range-in a b (max s a) (omega arith) (omega (arith, c.1)), holds-le (max s a) ps))
    go (yes x) (no y) z i = let r = i (rw (lt-ltb s b x, le-ltb a e (omega arith)) at z) in (r.0, r.1, r.2, omega (arith, r.3, in_range-le a b r.0))
    go (no x) k z i = let r = i (rw (le-ltb s b (omega arith)) at z) in (r.0, r.1, r.2, omega (arith, r.3, in_range-le a b r.0))

-- ---- lying inside one pair is that every place is held

pub held-inside : (s e lo : ℕ) (ps : Pairs) → s < e → ObeyFrom lo ps → ((p : ℕ) → s ≤ p → p < e → contains p ps ≡ 1) → inside s e ps ≡ true
unfolding inside contains
held-inside s e lo none h c d = absurd (omega (arith, d s (omega arith) h))
held-inside s e lo (pair a b ps) h c d = go (stand a b s) (λ k. held-inside s e (suc b) ps h c.2 k)
  where
    go : Where a b s → (((p : ℕ) → s ≤ p → p < e → contains p ps ≡ 1) → inside s e ps ≡ true) → ((leb a s && leb e b) || inside s e ps) ≡ true
    go (under x y) i = absurd (omega (arith, d s (omega arith) h, holds-below (suc b) s ps c.2 (omega (arith, c.1))))
    go (within x y w) i = at (dec_le e b)
      where
        at : Dec (e ≤ b) → ((leb a s && leb e b) || inside s e ps) ≡ true
        at (yes q) = rw (le-leb a s x, le-leb e b q)
        at (no q) = absurd (omega (arith, d b (omega arith) (omega arith), holds-below (suc b) b ps c.2 (omega arith), in_range-past a b b (omega arith)))
    go (past x y w) i = rw (i (λ p q r. omega (arith, d p q r, in_range-past a b p (omega arith))), or-true (leb a s && leb e b))

pub inside-held : (s e : ℕ) (ps : Pairs) → inside s e ps ≡ true → (p : ℕ) → s ≤ p → p < e → contains p ps ≡ 1
unfolding inside contains
inside-held s e none h p x y = absurd (true≢false (sym h))
inside-held s e (pair a b ps) h p x y = at (leb a s && leb e b) refl h (λ k. inside-held s e ps k p x y)
  where
    at : (t : Bool) → (leb a s && leb e b) ≡ t → (t || inside s e ps) ≡ true → (inside s e ps ≡ true → contains p ps ≡ 1) → max (in_range a b p) (contains p ps) ≡ 1
    at true q k i =
        let z = (and-eq-true_iff (leb a s) (leb e b)).0 q in
        omega (arith, in_range-in a b p (omega (arith, leb-true a s z.0)) (omega (arith, leb-true e b z.1)), holds-le p ps)
    at false q k i = omega (arith, i k, in_range-le a b p)

-- ---- totals

-- a range of places, counted one by one
counted : ℕ → ℕ → ℕ → ℕ
counted a b zero = 0
counted a b (suc f) = in_range a b f + counted a b f

counted_is : (a b f : ℕ) → a ≤ b → counted a b f + min f a ≡ min f b
unfolding counted
counted_is a b zero h = omega arith
counted_is a b (suc f) h = go (stand a b f) (counted_is a b f h)
  where
    go : Where a b f → counted a b f + min f a ≡ min f b → in_range a b f + counted a b f + min (suc f) a ≡ min (suc f) b
    go (under x y) i = omega arith
    go (within x y w) i = omega arith
    go (past x y w) i = omega arith

held-split : (a b f lo : ℕ) (ps : Pairs) → b < lo → ObeyFrom lo ps → count_below f (pair a b ps) ≡ counted a b f + count_below f ps
unfolding count_below counted contains
held-split a b zero lo ps g c = refl
held-split a b (suc f) lo ps g c = go (stand a b f) (held-split a b f lo ps g c)
  where
    go : Where a b f → count_below f (pair a b ps) ≡ counted a b f + count_below f ps
        → max (in_range a b f) (contains f ps) + count_below f (pair a b ps) ≡ in_range a b f + counted a b f + (contains f ps + count_below f ps)
    go (under x y) i = omega arith
    go (within x y w) i = omega (arith, holds-below lo f ps c (omega arith))
    go (past x y w) i = omega arith

none_held : (f : ℕ) → count_below f none ≡ 0
unfolding count_below contains
none_held zero = refl
none_held (suc f) = omega (arith, none_held f)

pub total-held : (f lo : ℕ) (ps : Pairs) → ObeyFrom lo ps → ends_at_most f ps ≡ true → total ps ≡ count_below f ps
unfolding total ends_at_most
total-held f lo none c h = sym (none_held f)
total-held f lo (pair a b ps) c h =
    let q = (and-eq-true_iff (leb b f) (ends_at_most f ps)).0 h in
    let i = total-held f (suc b) ps c.2 q.1 in
    omega (arith, i, held-split a b f (suc b) ps (omega arith) c.2, counted_is a b f (omega (arith, c.1)), leb-true b f q.0, c.1)

-- a place that no end is above
top : Pairs → ℕ
top none = 0
top (pair a b ps) = max b (top ps)

top-ends : (f : ℕ) (ps : Pairs) → top ps ≤ f → ends_at_most f ps ≡ true
unfolding top ends_at_most
top-ends f none h = refl
top-ends f (pair a b ps) h = rw (le-leb b f (omega arith), top-ends f ps (omega arith))

held-sum : (s e f : ℕ) (ps qs : Pairs) → ((p : ℕ) → contains p qs ≡ in_range s e p + contains p ps) → count_below f qs ≡ counted s e f + count_below f ps
unfolding count_below counted
held-sum s e zero ps qs h = refl
held-sum s e (suc f) ps qs h = omega (arith, h f, held-sum s e f ps qs h)

pub join-total : (s e lo : ℕ) (ps : Pairs) → s < e → lo ≤ s → ObeyFrom lo ps → ((p : ℕ) → in_range s e p + contains p ps ≤ 1) → total (join s e ps) ≡ (e - s) + total ps
join-total s e lo ps h g c d =
    let f = max e (top ps) in
    let b = top-ends f ps (omega arith) in
    let j = total-held f lo (join s e ps) (join-ruled s e lo ps h g c) (join-ends s e f ps (omega arith) b) in
    let t = held-sum s e f ps (join s e ps) (λ p. omega (arith, join-holds s e lo p ps h c, d p)) in
    omega (arith, j, t, total-held f lo ps c b, counted_is s e f (omega arith))
