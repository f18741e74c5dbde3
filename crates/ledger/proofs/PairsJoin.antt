-- A range joined to pairs: the places are the union, the rule is kept, at most one pair is added, and a range that shares no place adds its length.
use Prim.Native.Nat.{ℕ, suc, ◌≤◌, ◌<◌, min, max}
use mathlib.Core.Path.{◌≡◌, refl}
use mathlib.Core.Bool.{true, false, cond, and-eq-true_iff}
use native.Mathlib.Omega.{arith}
use native.Mathlib.Decide.{dec_lt}
use borrow.Author.Tests.{lt-ltb, le-ltb, le-leb, leb-true}
use lib.Dec.{leb, ltb}
use Rattle.ledger.specs.Pairs.{Pairs, none, pair, size, in_range, contains, ObeyFrom, join, ends_at_most}
use Rattle.ledger.proofs.PairsPlaces.{in_range-in, in_range-under, in_range-past, Where, under, within, past, stand, ruled-down}

-- ---- where a range is relative to a pair

pub data Stands (s e a b : ℕ) : Type 0 where
  before : e < a → ltb e a ≡ true → Stands s e a b
  behind : a ≤ e → b < s → ltb e a ≡ false → ltb b s ≡ true → Stands s e a b
  touching : a ≤ e → s ≤ b → ltb e a ≡ false → ltb b s ≡ false → Stands s e a b

pub stands : (s e a b : ℕ) → Stands s e a b
stands s e a b = go (dec_lt e a) (dec_lt b s)
  where
    go : Dec (e < a) → Dec (b < s) → Stands s e a b
    go (yes h) d = before h (lt-ltb e a h)
    go (no h) (yes k) = behind (omega arith) k (le-ltb e a (omega arith)) (lt-ltb b s k)
    go (no h) (no k) = touching (omega arith) (omega arith) (le-ltb e a (omega arith)) (le-ltb b s (omega arith))

pub join-before : (s e a b : ℕ) (ps : Pairs) → ltb e a ≡ true → join s e (pair a b ps) ≡ pair s e (pair a b ps)
unfolding join
join-before s e a b ps x = rw x

pub join-behind : (s e a b : ℕ) (ps : Pairs) → ltb e a ≡ false → ltb b s ≡ true → join s e (pair a b ps) ≡ pair a b (join s e ps)
unfolding join
join-behind s e a b ps x y = rw (x, y)

pub join-touching : (s e a b : ℕ) (ps : Pairs) → ltb e a ≡ false → ltb b s ≡ false → join s e (pair a b ps) ≡ join (min s a) (max e b) ps
unfolding join
join-touching s e a b ps x y = rw (x, y)

-- two ranges that share a place or touch are one
in_range-union : (s e a b p : ℕ) → s ≤ e → a ≤ b → a ≤ e → s ≤ b → in_range (min s a) (max e b) p ≡ max (in_range s e p) (in_range a b p)
in_range-union s e a b p h₁ h₂ h₃ h₄ = go (stand s e p) (stand a b p)
  where
    go : Where s e p → Where a b p → in_range (min s a) (max e b) p ≡ max (in_range s e p) (in_range a b p)
    go (under x y) (under z w) = omega (arith, in_range-under (min s a) (max e b) p (omega arith))
    go (under x y) (within z v w) = omega (arith, in_range-in (min s a) (max e b) p (omega arith) (omega arith))
    go (under x y) (past z v w) = absurd (omega arith)
    go (within x u y) (under z w) = omega (arith, in_range-in (min s a) (max e b) p (omega arith) (omega arith))
    go (within x u y) (within z v w) = omega (arith, in_range-in (min s a) (max e b) p (omega arith) (omega arith))
    go (within x u y) (past z v w) = omega (arith, in_range-in (min s a) (max e b) p (omega arith) (omega arith))
    go (past x u y) (under z w) = absurd (omega arith)
    go (past x u y) (within z v w) = omega (arith, in_range-in (min s a) (max e b) p (omega arith) (omega arith))
    go (past x u y) (past z v w) = omega (arith, in_range-past (min s a) (max e b) p (omega arith))

-- ---- the union

pub join-holds : (s e lo p : ℕ) (ps : Pairs) → s < e → ObeyFrom lo ps → contains p (join s e ps) ≡ max (in_range s e p) (contains p ps)
unfolding contains join
join-holds s e lo p none h c = refl
join-holds s e lo p (pair a b ps) h c =
    go (stands s e a b) (join-holds s e (suc b) p ps h c.2) (join-holds (min s a) (max e b) (suc b) p ps (omega arith) c.2)
  where
    go : Stands s e a b → contains p (join s e ps) ≡ max (in_range s e p) (contains p ps)
        → contains p (join (min s a) (max e b) ps) ≡ max (in_range (min s a) (max e b) p) (contains p ps)
        → contains p (cond (ltb e a) (pair s e (pair a b ps)) (cond (ltb b s) (pair a b (join s e ps)) (join (min s a) (max e b) ps)))
        ≡ max (in_range s e p) (max (in_range a b p) (contains p ps))
    go (before x y) i₁ i₂ = rw y
    go (behind x z y w) i₁ i₂ = rw (y, w) (omega arith)
    go (touching x z y w) i₁ i₂ = rw (y, w) (omega (arith, in_range-union s e a b p (omega arith) (omega arith) (omega arith) (omega arith)))

pub join-ruled : (s e lo : ℕ) (ps : Pairs) → s < e → lo ≤ s → ObeyFrom lo ps → ObeyFrom lo (join s e ps)
unfolding join
join-ruled s e lo none h k c = (k, h, tt)
join-ruled s e lo (pair a b ps) h k c =
    go (stands s e a b) (λ q. join-ruled s e (suc b) ps h q c.2)
    (join-ruled (min s a) (max e b) lo ps (omega arith) (omega arith) (ruled-down lo (suc b) ps (omega arith) c.2))
  where
    go : Stands s e a b → (suc b ≤ s → ObeyFrom (suc b) (join s e ps)) → ObeyFrom lo (join (min s a) (max e b) ps)
        → ObeyFrom lo (cond (ltb e a) (pair s e (pair a b ps)) (cond (ltb b s) (pair a b (join s e ps)) (join (min s a) (max e b) ps)))
    go (before x y) i₁ i₂ = rw y (k, h, (x, c.1, c.2))
    go (behind x z y w) i₁ i₂ = rw (y, w) (c.0, c.1, i₁ z)
    go (touching x z y w) i₁ i₂ = rw (y, w) i₂

pub join-size : (s e : ℕ) (ps : Pairs) → size (join s e ps) ≤ suc (size ps)
unfolding join size
join-size s e none = omega arith
join-size s e (pair a b ps) = go (stands s e a b) (join-size s e ps) (join-size (min s a) (max e b) ps)
  where
    go : Stands s e a b → size (join s e ps) ≤ suc (size ps) → size (join (min s a) (max e b) ps) ≤ suc (size ps)
        → size (cond (ltb e a) (pair s e (pair a b ps)) (cond (ltb b s) (pair a b (join s e ps)) (join (min s a) (max e b) ps))) ≤ suc (suc (size ps))
    go (before x y) i₁ i₂ = rw y (omega arith)
    go (behind x z y w) i₁ i₂ = rw (y, w) (omega arith)
    go (touching x z y w) i₁ i₂ = rw (y, w) (omega arith)

pub join-ends : (s e f : ℕ) (ps : Pairs) → e ≤ f → ends_at_most f ps ≡ true → ends_at_most f (join s e ps) ≡ true
unfolding join ends_at_most
join-ends s e f none h k = rw (le-leb e f h)
join-ends s e f (pair a b ps) h k =
    let q = (and-eq-true_iff (leb b f) (ends_at_most f ps)).0 k in
    go (stands s e a b) q (join-ends s e f ps h q.1) (join-ends (min s a) (max e b) f ps (omega (arith, leb-true b f q.0)) q.1)
  where
    go : Stands s e a b → (leb b f ≡ true) × (ends_at_most f ps ≡ true) → ends_at_most f (join s e ps) ≡ true → ends_at_most f (join (min s a) (max e b) ps) ≡ true
        → ends_at_most f (cond (ltb e a) (pair s e (pair a b ps)) (cond (ltb b s) (pair a b (join s e ps)) (join (min s a) (max e b) ps))) ≡ true
    go (before x y) q i₁ i₂ = rw (y, le-leb e f h, q.0, q.1)
    go (behind x z y w) q i₁ i₂ = rw (y, w, q.0, i₁)
    go (touching x z y w) q i₁ i₂ = rw (y, w, i₂)
