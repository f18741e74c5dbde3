-- The lent form: a ledger that obeys its rule is its used pairs with zeros after them, and no other ledger of its length has these.
use Prim.Native.Nat.{ℕ, zero, suc, ◌*◌, ◌%◌, ◌≤◌, ◌<◌}
use mathlib.Core.Path.{◌≡◌, refl, ap}
use mathlib.Core.Bool.{Bool, true, false, cond, ◌&&◌, and-eq-true_iff}
use mathlib.Core.List.{List, [], ◌∷◌}
use native.Mathlib.Omega.{arith}
use borrow.Author.Tests.{lt-ltb, le-leb, ltb-true, leb-true, ne_eqb, eqb-true}
use lib.Dec.{leb, ltb, eqb}
use lib.ListN.{length}
use Rattle.ledger.specs.Pairs.{Pairs, none, pair, size, ObeyFrom}
use Rattle.ledger.specs.Ledger.{all_zero, obeys_from, pairs_of, laid_out}

pub length-laid_out : (r : ℕ) (ps : Pairs) → length (laid_out r ps) ≡ 2 * r
unfolding laid_out
length-laid_out zero ps = refl
length-laid_out (suc r) none = omega (arith, length-laid_out r none)
length-laid_out (suc r) (pair a b ps) = omega (arith, length-laid_out r ps)

pub pairs_of-laid_out : (r lo : ℕ) (ps : Pairs) → ObeyFrom lo ps → size ps ≤ r → pairs_of (laid_out r ps) ≡ ps
unfolding laid_out pairs_of size
pairs_of-laid_out zero lo none c h = refl
pairs_of-laid_out zero lo (pair a b ps) c h = absurd (omega arith)
pairs_of-laid_out (suc r) lo none c h = refl
pairs_of-laid_out (suc r) lo (pair a b ps) c h = rw (ne_eqb b 0 (λ q. omega (arith, c.1)), pairs_of-laid_out r (suc b) ps c.2 (omega arith))

zeros-laid_out : (r : ℕ) → all_zero (laid_out r none) ≡ true
unfolding laid_out all_zero
zeros-laid_out zero = refl
zeros-laid_out (suc r) = zeros-laid_out r

pub rule-laid_out : (r lo : ℕ) (ps : Pairs) → ObeyFrom lo ps → obeys_from lo (laid_out r ps) ≡ true
unfolding laid_out obeys_from
rule-laid_out zero lo ps c = refl
rule-laid_out (suc r) lo none c =
    let n : length (laid_out r none) % 2 ≡ 0 = omega (arith, length-laid_out r none) in
    rw (n, zeros-laid_out r)
rule-laid_out (suc r) lo (pair a b ps) c =
    rw (ne_eqb b 0 (λ q. omega (arith, c.1)), le-leb lo a c.0, lt-ltb a b c.1, rule-laid_out r (suc b) ps c.2)

-- ---- a ledger that obeys the rule

-- a pair in front: unused, with zeros after it, or used
pub data First (lo a b : ℕ) (rest : List ℕ) : Type 0 where
  unused : a ≡ 0 → b ≡ 0 → all_zero rest ≡ true → First lo a b rest
  used : lo ≤ a → a < b → obeys_from (suc b) rest ≡ true → First lo a b rest

pub rule-first : (lo a b : ℕ) (rest : List ℕ) → obeys_from lo (a ∷ b ∷ rest) ≡ true → First lo a b rest
unfolding obeys_from
rule-first lo a b rest h = go (eqb b 0) refl
  where
    go : (t : Bool) → eqb b 0 ≡ t → First lo a b rest
    go true e =
        let q = (and-eq-true_iff (eqb a 0) _).0 (rw e at h) in
        unused (eqb-true a 0 q.0) (eqb-true b 0 e) ((and-eq-true_iff (all_zero rest) _).0 q.1).0
    go false e =
        let q = (and-eq-true_iff (leb lo a) (ltb a b && obeys_from (suc b) rest)).0 (rw e at h) in
        let k = (and-eq-true_iff (ltb a b) (obeys_from (suc b) rest)).0 q.1 in
        used (leb-true lo a q.0) (ltb-true a b k.0) k.1

pub rule-ruled : (lo : ℕ) (l : List ℕ) → obeys_from lo l ≡ true → ObeyFrom lo (pairs_of l)
unfolding pairs_of
rule-ruled lo [] h = tt
rule-ruled lo (a ∷ []) h = tt
rule-ruled lo (a ∷ b ∷ rest) h = go (rule-first lo a b rest h) (λ k. rule-ruled (suc b) rest k)
  where
    go : First lo a b rest → (obeys_from (suc b) rest ≡ true → ObeyFrom (suc b) (pairs_of rest)) → ObeyFrom lo (cond (eqb b 0) none (pair a b (pairs_of rest)))
    go (unused x y z) i = rw y tt
    go (used x y z) i = rw (ne_eqb b 0 (λ q. omega arith)) (x, y, i z)

zeros-are-laid_out : (r : ℕ) (l : List ℕ) → all_zero l ≡ true → length l ≡ 2 * r → l ≡ laid_out r none
unfolding all_zero laid_out
zeros-are-laid_out zero [] h n = refl
zeros-are-laid_out zero (a ∷ l) h n = absurd (omega arith)
zeros-are-laid_out (suc r) [] h n = absurd (omega arith)
zeros-are-laid_out (suc r) (a ∷ []) h n = absurd (omega arith)
zeros-are-laid_out (suc r) (a ∷ b ∷ l) h n =
    let p = (and-eq-true_iff (eqb a 0) (eqb b 0 && all_zero l)).0 h in
    let q = (and-eq-true_iff (eqb b 0) (all_zero l)).0 p.1 in
    rw (eqb-true a 0 p.0, eqb-true b 0 q.0) (ap (λ t. 0 ∷ 0 ∷ t) (zeros-are-laid_out r l q.1 (omega arith)))

pub laid_out-pairs_of : (r lo : ℕ) (l : List ℕ) → obeys_from lo l ≡ true → length l ≡ 2 * r → l ≡ laid_out r (pairs_of l)
unfolding pairs_of laid_out
laid_out-pairs_of zero lo [] h n = refl
laid_out-pairs_of zero lo (a ∷ l) h n = absurd (omega arith)
laid_out-pairs_of (suc r) lo [] h n = absurd (omega arith)
laid_out-pairs_of (suc r) lo (a ∷ []) h n = absurd (omega arith)
laid_out-pairs_of (suc r) lo (a ∷ b ∷ rest) h n = go (rule-first lo a b rest h) (λ k. laid_out-pairs_of r (suc b) rest k (omega arith))
  where
    go : First lo a b rest → (obeys_from (suc b) rest ≡ true → rest ≡ laid_out r (pairs_of rest)) → a ∷ b ∷ rest ≡ laid_out (suc r) (cond (eqb b 0) none (pair a b (pairs_of rest)))
    go (unused x y z) i = rw (x, y) (ap (λ t. 0 ∷ 0 ∷ t) (zeros-are-laid_out r rest z (omega arith)))
    go (used x y z) i = rw (ne_eqb b 0 (λ q. omega arith)) (ap (λ t. a ∷ b ∷ t) (i z))

pub size-pairs_of : (l : List ℕ) → 2 * size (pairs_of l) ≤ length l
unfolding pairs_of size
size-pairs_of [] = omega arith
size-pairs_of (a ∷ []) = omega arith
size-pairs_of (a ∷ b ∷ rest) = go (eqb b 0) (size-pairs_of rest)
  where
    go : (t : Bool) → 2 * size (pairs_of rest) ≤ length rest → 2 * size (cond t none (pair a b (pairs_of rest))) ≤ suc (suc (length rest))
    go true i = omega arith
    go false i = omega arith
