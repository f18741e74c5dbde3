-- Places: where one is relative to a range, and which places pairs hold. That a place is held is the number 1, that it is not is 0, so
-- that a union is `max`, sharing no place is a sum of at most 1, and `omega` does the rest.
use Prim.Native.Nat.{ℕ, suc, ◌≤◌, ◌<◌}
use mathlib.Core.Path.{◌≡◌, refl}
use mathlib.Core.Bool.{and-false}
use native.Mathlib.Omega.{arith}
use native.Mathlib.Decide.{dec_le, dec_lt}
use borrow.Author.Tests.{lt-ltb, le-ltb, le-leb, lt-leb}
use lib.Dec.{leb}
use Rattle.ledger.specs.Pairs.{Pairs, none, pair, in_range, contains, ObeyFrom}

-- ---- one range

pub in_range-in : (a b p : ℕ) → a ≤ p → p < b → in_range a b p ≡ 1
unfolding in_range
in_range-in a b p h k = rw (le-leb a p h, lt-ltb p b k)

pub in_range-under : (a b p : ℕ) → p < a → in_range a b p ≡ 0
unfolding in_range
in_range-under a b p h = rw (lt-leb a p h)

pub in_range-past : (a b p : ℕ) → b ≤ p → in_range a b p ≡ 0
unfolding in_range
in_range-past a b p h = rw (le-ltb p b h, and-false (leb a p))

-- where p is relative to the range from a to b
pub data Where (a b p : ℕ) : Type 0 where
  under : p < a → in_range a b p ≡ 0 → Where a b p
  within : a ≤ p → p < b → in_range a b p ≡ 1 → Where a b p
  past : a ≤ p → b ≤ p → in_range a b p ≡ 0 → Where a b p

pub stand : (a b p : ℕ) → Where a b p
stand a b p = go (dec_le a p) (dec_lt p b)
  where
    go : Dec (a ≤ p) → Dec (p < b) → Where a b p
    go (yes h) (yes k) = within h k (in_range-in a b p h k)
    go (yes h) (no k) = let q : b ≤ p = omega arith in past h q (in_range-past a b p q)
    go (no h) d = let q : p < a = omega arith in under q (in_range-under a b p q)

pub in_range-le : (a b p : ℕ) → in_range a b p ≤ 1
in_range-le a b p = go (stand a b p)
  where
    go : Where a b p → in_range a b p ≤ 1
    go (under h e) = omega arith
    go (within h k e) = omega arith
    go (past h k e) = omega arith

pub in_range-part : (a b c d p : ℕ) → c ≤ a → b ≤ d → in_range a b p ≤ in_range c d p
in_range-part a b c d p h g = go (stand a b p)
  where
    go : Where a b p → in_range a b p ≤ in_range c d p
    go (under x y) = omega arith
    go (within x y z) = omega (arith, in_range-in c d p (omega arith) (omega arith))
    go (past x y z) = omega arith

-- ---- pairs

pub holds-le : (p : ℕ) (ps : Pairs) → contains p ps ≤ 1
unfolding contains
holds-le p none = omega arith
holds-le p (pair a b ps) = omega (arith, in_range-le a b p, holds-le p ps)

pub ruled-down : (lo m : ℕ) (ps : Pairs) → lo ≤ m → ObeyFrom m ps → ObeyFrom lo ps
ruled-down lo m none h c = tt
ruled-down lo m (pair a b ps) h c = (omega arith, c.1, c.2)

-- pairs from lo on hold nothing below it
pub holds-below : (lo p : ℕ) (ps : Pairs) → ObeyFrom lo ps → p < lo → contains p ps ≡ 0
unfolding contains
holds-below lo p none c h = refl
holds-below lo p (pair a b ps) c h = omega (arith, in_range-under a b p (omega arith), holds-below (suc b) p ps c.2 (omega arith))
