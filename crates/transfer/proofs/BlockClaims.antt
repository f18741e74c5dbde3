-- What a list of blocks claims: the places of its payloads joined to those claimed before.
use Prim.Native.Nat.{ℕ, ◌+◌, ◌≤◌, ◌<◌, min, max}
use mathlib.Core.Path.{◌≡◌, refl, ap}
use mathlib.Core.Bool.{cond}
use mathlib.Core.List.{List, [], ◌∷◌, ◌++◌}
use native.Mathlib.Omega.{arith}
use native.Mathlib.Decide.{ℕ_discrete}
use borrow.Author.Tests.{eq-eqb, ne_eqb}
use lib.Dec.{eqb}
use Rattle.ledger.specs.Pairs.{Pairs, size, total, in_range, contains, ObeyFrom, join}
use Rattle.ledger.proofs.PairsPlaces.{Where, under, within, past, stand, in_range-le}
use Rattle.ledger.proofs.PairsJoin.{join-holds, join-ruled, join-size}
use Rattle.ledger.proofs.PairsUnique.{ruled-unique}
use Rattle.ledger.proofs.PairsOverlap.{join-total}
use Rattle.transfer.specs.Transfer.{sum}
use Rattle.transfer.specs.Block.{Block, place_of, size_of, add_claim, claims_in}
use Rattle.transfer.specs.Sending.{non_empty_payloads}

pub sum-append {ℓ} : {A : Type ℓ} (f : A → ℕ) (a b : List A) → sum f (a ++ b) ≡ sum f a + sum f b
unfolding sum
sum-append f [] b = omega arith
sum-append f (x ∷ a) b = omega (arith, sum-append f a b)

pub sum-insert {ℓ} : {A : Type ℓ} (w : A → ℕ) (a : List A) (x : A) (b : List A) → sum w (a ++ x ∷ b) ≡ w x + sum w (a ++ b)
unfolding sum
sum-insert w a x b = omega (arith, sum-append w a (x ∷ b), sum-append w a b)

-- 1 where block x claims place q
abbrev pub hit_by : ℕ → Block → ℕ
hit_by q x = in_range (place_of x) (place_of x + size_of x) q

-- how many of the blocks claim place q
abbrev pub cover : ℕ → List Block → ℕ
cover q xs = sum (hit_by q) xs

-- ---- one block

-- what holds of the pairs where the payload is empty, and of the joined ones where it is not, holds of the claim
claim-cases : (P : Pairs → Type 0) (x : Block) (ps : Pairs) → (size_of x ≡ 0 → P ps) → (0 < size_of x → P (join (place_of x) (place_of x + size_of x) ps)) → P (add_claim x ps)
unfolding add_claim
claim-cases P x ps f g = go (ℕ_discrete (size_of x) 0)
  where
    go : Dec (size_of x ≡ 0) → P (cond (eqb (size_of x) 0) ps (join (place_of x) (place_of x + size_of x) ps))
    go (yes h) = rw (eq-eqb (size_of x) 0 h) (f h)
    go (no h) = rw (ne_eqb (size_of x) 0 h) (g (omega arith))

pub claim-ruled : (x : Block) (ps : Pairs) → ObeyFrom 0 ps → ObeyFrom 0 (add_claim x ps)
claim-ruled x ps c = claim-cases (ObeyFrom 0) x ps (λ h. c) (λ h. join-ruled (place_of x) (place_of x + size_of x) 0 ps (omega arith) (omega arith) c)

pub claim-holds : (q : ℕ) (x : Block) (ps : Pairs) → ObeyFrom 0 ps → contains q (add_claim x ps) ≡ max (hit_by q x) (contains q ps)
claim-holds q x ps c =
    claim-cases (λ r. contains q r ≡ max (hit_by q x) (contains q ps)) x ps (λ h. at h (stand (place_of x) (place_of x + size_of x) q))
    (λ h. join-holds (place_of x) (place_of x + size_of x) 0 q ps (omega arith) c)
  where
    at : size_of x ≡ 0 → Where (place_of x) (place_of x + size_of x) q → contains q ps ≡ max (hit_by q x) (contains q ps)
    at h (under y z) = omega arith
    at h (within y z w) = absurd (omega arith)
    at h (past y z w) = omega arith

pub claim-total : (x : Block) (ps : Pairs) → ObeyFrom 0 ps → ((q : ℕ) → hit_by q x + contains q ps ≤ 1) → total (add_claim x ps) ≡ size_of x + total ps
claim-total x ps c d =
    claim-cases (λ r. total r ≡ size_of x + total ps) x ps (λ h. omega arith)
    (λ h. omega (arith, join-total (place_of x) (place_of x + size_of x) 0 ps (omega arith) (omega arith) c d))

-- ---- a list of blocks

pub claims-append : (a b : List Block) (ps : Pairs) → claims_in (a ++ b) ps ≡ claims_in a (claims_in b ps)
unfolding claims_in
claims-append [] b ps = refl
claims-append (x ∷ a) b ps = ap (add_claim x) (claims-append a b ps)

pub claims-ruled : (xs : List Block) (ps : Pairs) → ObeyFrom 0 ps → ObeyFrom 0 (claims_in xs ps)
unfolding claims_in
claims-ruled [] ps c = c
claims-ruled (x ∷ xs) ps c = claim-ruled x (claims_in xs ps) (claims-ruled xs ps c)

-- a place is held where a block claims it or it was held before
pub claims-holds : (q : ℕ) (xs : List Block) (ps : Pairs) → ObeyFrom 0 ps → contains q (claims_in xs ps) ≡ max (min 1 (cover q xs)) (contains q ps)
unfolding claims_in sum
claims-holds q [] ps c = omega arith
claims-holds q (x ∷ xs) ps c =
    omega (arith, claim-holds q x (claims_in xs ps) (claims-ruled xs ps c), claims-holds q xs ps c, in_range-le (place_of x) (place_of x + size_of x) q)

-- blocks that share no place add their lengths
pub claims-total : (xs : List Block) (ps : Pairs) → ObeyFrom 0 ps → ((q : ℕ) → cover q xs + contains q ps ≤ 1) → total (claims_in xs ps) ≡ sum size_of xs + total ps
unfolding claims_in sum
claims-total [] ps c d = omega arith
claims-total (x ∷ xs) ps c d =
    omega (arith, claim-total x (claims_in xs ps) (claims-ruled xs ps c) (λ q. omega (arith, d q, claims-holds q xs ps c)), claims-total xs ps c (λ q. omega (arith, d q)))

-- a payload that is not empty takes one more pair at most
pub claims-size : (xs : List Block) (ps : Pairs) → size (claims_in xs ps) ≤ non_empty_payloads xs + size ps
unfolding claims_in sum
claims-size [] ps = omega arith
claims-size (x ∷ xs) ps =
    claim-cases (λ r. size r ≤ cond (eqb (size_of x) 0) 0 1 + non_empty_payloads xs + size ps) x (claims_in xs ps) (λ h. rw (eq-eqb (size_of x) 0 h) (omega (arith, claims-size xs ps)))
    (λ h. rw (ne_eqb (size_of x) 0 (λ e. omega arith)) (omega (arith, claims-size xs ps, join-size (place_of x) (place_of x + size_of x) (claims_in xs ps))))

-- a block put in anywhere is claimed last
pub claims-insert : (a : List Block) (x : Block) (b : List Block) (ps : Pairs) → ObeyFrom 0 ps → claims_in (a ++ x ∷ b) ps ≡ add_claim x (claims_in (a ++ b) ps)
unfolding sum
claims-insert a x b ps c =
    let without = claims-ruled (a ++ b) ps c in
    ruled-unique 0 (claims_in (a ++ x ∷ b) ps) (add_claim x (claims_in (a ++ b) ps)) (claims-ruled (a ++ x ∷ b) ps c) (claim-ruled x (claims_in (a ++ b) ps) without)
    (λ q. omega (arith, claims-holds q (a ++ x ∷ b) ps c, claim-holds q x (claims_in (a ++ b) ps) without, claims-holds q (a ++ b) ps c, sum-append (hit_by q) a (x ∷ b), sum-append (hit_by q) a b, in_range-le (place_of x) (place_of x + size_of x) q))

-- only headers claim
pub claims-same : (a : List Block) (x y : Block) (b : List Block) (ps : Pairs) → x.head ≡ y.head → claims_in (a ++ x ∷ b) ps ≡ claims_in (a ++ y ∷ b) ps
unfolding claims_in add_claim
claims-same [] x y b ps h = rw h
claims-same (z ∷ a) x y b ps h = ap (add_claim z) (claims-same a x y b ps h)
