-- Pairs that lie inside other pairs: which places they hold, and a range apart from the others. Pairs by the rule are none or hold a place.
use Prim.Native.Nat.{ℕ, suc, ◌≤◌, ◌<◌, max}
use mathlib.Core.Path.{◌≡◌, refl}
use mathlib.Core.Logic.{◌↔◌}
use mathlib.Core.Bool.{true, false, and-eq-true_iff}
use native.Mathlib.Omega.{arith}
use Rattle.ledger.specs.Pairs.{Pairs, none, pair, size, total, in_range, contains, ObeyFrom, overlaps, inside, all_inside}
use Rattle.ledger.proofs.PairsPlaces.{in_range-in, Where, under, within, past, stand, holds-le}
use Rattle.ledger.proofs.PairsOverlap.{shares-none, none-shares, held-inside, inside-held}

-- what lies inside is held
pub nested-held : (ds ps : Pairs) → all_inside ds ps ≡ true → (p : ℕ) → contains p ds ≤ contains p ps
unfolding all_inside contains
nested-held none ps h p = omega arith
nested-held (pair a b ds) ps h p =
    let q = (and-eq-true_iff (inside a b ps) (all_inside ds ps)).0 h in
    go (stand a b p) (inside-held a b ps q.0 p) (nested-held ds ps q.1 p)
  where
    go : Where a b p → (a ≤ p → p < b → contains p ps ≡ 1) → contains p ds ≤ contains p ps → max (in_range a b p) (contains p ds) ≤ contains p ps
    go (under x y) k i = omega arith
    go (within x y w) k i = omega (arith, k x y)
    go (past x y w) k i = omega arith

pub held-nested : (lo : ℕ) (ds ps : Pairs) → ObeyFrom lo ds → ObeyFrom 0 ps → ((p : ℕ) → contains p ds ≤ contains p ps) → all_inside ds ps ≡ true
unfolding all_inside contains
held-nested lo none ps c d h = refl
held-nested lo (pair a b ds) ps c d h =
    rw (
      held-inside a b 0 ps c.1 d (λ p x y. omega (arith, h p, in_range-in a b p x y, holds-le p ps)),
      held-nested (suc b) ds ps c.2 d (λ p. omega (arith, h p)),
    )

-- a range apart from the outer pairs is apart from the inner ones
pub nested-apart : (s e : ℕ) (ds ps : Pairs) → s < e → ObeyFrom 0 ds → all_inside ds ps ≡ true → overlaps s e ps ≡ false → overlaps s e ds ≡ false
nested-apart s e ds ps h c q n = none-shares s e 0 ds h c (λ p. omega (arith, shares-none s e p ps n, nested-held ds ps q p))

-- pairs that obey the rule hold a place where there is one
pub size-total : (lo : ℕ) (ps : Pairs) → ObeyFrom lo ps → (0 < size ps) ↔ (0 < total ps)
unfolding size total
size-total lo none c = (λ h. absurd (omega arith), λ h. absurd (omega arith))
size-total lo (pair a b ps) c = (λ h. omega (arith, c.1), λ h. omega arith)
