-- Pairs that obey the rule are determined by the places they hold.
use Prim.Native.Nat.{ℕ, suc, ◌<◌}
use mathlib.Core.Path.{◌≡◌, refl, sym, subst}
use native.Mathlib.Omega.{arith}
use native.Mathlib.Decide.{dec_lt}
use Rattle.ledger.specs.Pairs.{Pairs, none, pair, contains, ObeyFrom}
use Rattle.ledger.proofs.PairsPlaces.{in_range-in, in_range-under, in_range-past, holds-below}

pub ruled-unique : (lo : ℕ) (ps qs : Pairs) → ObeyFrom lo ps → ObeyFrom lo qs → ((p : ℕ) → contains p ps ≡ contains p qs) → ps ≡ qs
unfolding contains
ruled-unique lo none none c d h = refl
ruled-unique lo none (pair a b qs) c d h = absurd (omega (arith, h a, in_range-in a b a (omega arith) d.1))
ruled-unique lo (pair a b ps) none c d h = absurd (omega (arith, h a, in_range-in a b a (omega arith) c.1))
ruled-unique lo (pair a b ps) (pair a' b' qs) c d h =
    cc (starts, ends, ruled-unique (suc b) ps qs c.2 (subst (λ (x : ℕ). ObeyFrom (suc x) qs) (sym ends) d.2) tails)
  where
    starts : a ≡ a'
    starts = go (dec_lt a a') (dec_lt a' a)
      where
        go : Dec (a < a') → Dec (a' < a) → a ≡ a'
        go (yes x) z =
            absurd (omega (arith, h a, in_range-in a b a (omega arith) c.1, in_range-under a' b' a x, holds-below (suc b') a qs d.2 (omega (arith, d.1))))
        go (no x) (yes y) =
            absurd (omega (arith, h a', in_range-in a' b' a' (omega arith) d.1, in_range-under a b a' y, holds-below (suc b) a' ps c.2 (omega (arith, c.1))))
        go (no x) (no y) = omega arith

    ends : b ≡ b'
    ends = go (dec_lt b b') (dec_lt b' b)
      where
        go : Dec (b < b') → Dec (b' < b) → b ≡ b'
        go (yes x) z =
            absurd (omega (arith, h b, in_range-in a' b' b (omega (arith, starts, c.1)) x, in_range-past a b b (omega arith), holds-below (suc b) b ps c.2 (omega arith)))
        go (no x) (yes y) =
            absurd (omega (arith, h b', in_range-in a b b' (omega (arith, starts, d.1)) y, in_range-past a' b' b' (omega arith), holds-below (suc b') b' qs d.2 (omega arith)))
        go (no x) (no y) = omega arith

    tails : (p : ℕ) → contains p ps ≡ contains p qs
    tails p = go (dec_lt p (suc b))
      where
        go : Dec (p < suc b) → contains p ps ≡ contains p qs
        go (yes x) = omega (arith, holds-below (suc b) p ps c.2 x, holds-below (suc b') p qs d.2 (omega (arith, ends)))
        go (no x) = omega (arith, h p, in_range-past a b p (omega arith), in_range-past a' b' p (omega (arith, ends)))
