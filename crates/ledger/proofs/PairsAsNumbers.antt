-- Pairs as a plain run of numbers, and the ledger as such a run with zeros after it.
use Prim.Native.Nat.{ℕ, zero, suc, ◌+◌, ◌*◌, ◌-◌, ◌≤◌}
use mathlib.Core.Path.{◌≡◌, refl, ap}
use mathlib.Core.List.{List, [], ◌∷◌, ◌++◌}
use native.Mathlib.Omega.{arith}
use lib.ListN.{length, get_or, take, drop, replicate}
use Rattle.ledger.specs.Pairs.{Pairs, none, pair, size}
use Rattle.ledger.specs.Ledger.{laid_out}
use Rattle.ledger.proofs.PairsJoinSlot.{rest, splice, start_at, end_at}

unfoldable pub flat : Pairs → List ℕ
flat none = []
flat (pair a b ps) = a ∷ b ∷ flat ps

-- an even place is two steps on
double : (k : ℕ) → 2 * suc k ≡ suc (suc (2 * k))
double k = omega arith

pub length-flat : (ps : Pairs) → length (flat ps) ≡ 2 * size ps
unfolding flat size
length-flat none = refl
length-flat (pair a b ps) = omega (arith, length-flat ps)

pub laid_out-flat : (r : ℕ) (ps : Pairs) → size ps ≤ r → laid_out r ps ≡ flat ps ++ replicate (2 * (r - size ps)) 0
unfolding laid_out flat size
laid_out-flat zero none h = refl
laid_out-flat zero (pair a b ps) h = absurd (omega arith)
laid_out-flat (suc r) none h =
    let e : 2 * (suc r - 0) ≡ suc (suc (2 * (r - 0))) = omega arith in
    rw e (ap (λ t. 0 ∷ 0 ∷ t) (laid_out-flat r none (omega arith)))
laid_out-flat (suc r) (pair a b ps) h =
    let e : suc r - suc (size ps) ≡ r - size ps = omega arith in
    rw e (ap (λ t. a ∷ b ∷ t) (laid_out-flat r ps (omega arith)))

pub flat-rest : (k : ℕ) (ps : Pairs) → flat (rest k ps) ≡ drop (2 * k) (flat ps)
unfolding flat rest
flat-rest zero ps = refl
flat-rest (suc k) none = rw (double k)
flat-rest (suc k) (pair a b ps) = rw (double k) (flat-rest k ps)

pub flat-splice : (k : ℕ) (ps qs : Pairs) → k ≤ size ps → flat (splice k ps qs) ≡ take (2 * k) (flat ps) ++ flat qs
unfolding flat splice size
flat-splice zero ps qs h = refl
flat-splice (suc k) none qs h = absurd (omega arith)
flat-splice (suc k) (pair a b ps) qs h = rw (double k) (ap (λ t. a ∷ b ∷ t) (flat-splice k ps qs (omega arith)))

pub size-rest : (k : ℕ) (ps : Pairs) → size (rest k ps) ≡ size ps - k
unfolding rest size
size-rest zero ps = omega arith
size-rest (suc k) none = omega arith
size-rest (suc k) (pair a b ps) = omega (arith, size-rest k ps)

pub size-splice : (k : ℕ) (ps qs : Pairs) → k ≤ size ps → size (splice k ps qs) ≡ k + size qs
unfolding splice size
size-splice zero ps qs h = omega arith
size-splice (suc k) none qs h = absurd (omega arith)
size-splice (suc k) (pair a b ps) qs h = omega (arith, size-splice k ps qs (omega arith))

-- the end of the pair with the number k, in the lent form
pub laid_out-end : (r k : ℕ) (ps : Pairs) → size ps ≤ r → get_or (laid_out r ps) (2 * k + 1) 0 ≡ end_at k ps
unfolding laid_out end_at size
laid_out-end zero k none h = refl
laid_out-end zero k (pair a b ps) h = absurd (omega arith)
laid_out-end (suc r) zero none h = refl
laid_out-end (suc r) (suc k) none h =
    let e : 2 * suc k + 1 ≡ suc (suc (2 * k + 1)) = omega arith in
    rw e (laid_out-end r k none (unfold size in omega arith))
laid_out-end (suc r) zero (pair a b ps) h = refl
laid_out-end (suc r) (suc k) (pair a b ps) h =
    let e : 2 * suc k + 1 ≡ suc (suc (2 * k + 1)) = omega arith in
    rw e (laid_out-end r k ps (omega arith))

-- and its start
pub laid_out-start : (r k : ℕ) (ps : Pairs) → size ps ≤ r → get_or (laid_out r ps) (2 * k) 0 ≡ start_at k ps
unfolding laid_out start_at size
laid_out-start zero k none h = refl
laid_out-start zero k (pair a b ps) h = absurd (omega arith)
laid_out-start (suc r) zero none h = refl
laid_out-start (suc r) (suc k) none h = rw (double k) (laid_out-start r k none (unfold size in omega arith))
laid_out-start (suc r) zero (pair a b ps) h = refl
laid_out-start (suc r) (suc k) (pair a b ps) h = rw (double k) (laid_out-start r k ps (omega arith))
