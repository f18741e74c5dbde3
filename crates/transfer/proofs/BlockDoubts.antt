-- The blocks with bit 32: sums over them, and what they claim.
use Prim.Native.Nat.{ℕ, ◌+◌, ◌≤◌}
use mathlib.Core.Path.{◌≡◌, refl, ap, ◌∙◌}
use mathlib.Core.Bool.{Bool, true, false, cond}
use mathlib.Core.List.{List, [], ◌∷◌, ◌++◌}
use native.Mathlib.Omega.{arith}
use Rattle.ledger.specs.Pairs.{Pairs, none, ObeyFrom}
use Rattle.transfer.specs.Transfer.{sum}
use Rattle.transfer.specs.Header.{is_doubtful}
use Rattle.transfer.specs.Block.{Block, add_claim, claims_in, doubtful_in}
use Rattle.transfer.proofs.BlockClaims.{claims-ruled, claims-insert, claims-same}

-- a number of those with bit 32, 0 for any other
abbrev pub if_doubtful : (Block → ℕ) → Block → ℕ
if_doubtful f x = cond (is_doubtful x.head) (f x) 0

pub sum-doubtful : (f : Block → ℕ) (xs : List Block) → sum f (doubtful_in xs) ≡ sum (if_doubtful f) xs
unfolding sum doubtful_in
sum-doubtful f [] = refl
sum-doubtful f (x ∷ xs) = go (is_doubtful x.head) (sum-doubtful f xs)
  where
    go : (d : Bool) → sum f (doubtful_in xs) ≡ sum (if_doubtful f) xs → sum f (cond d (x ∷ doubtful_in xs) (doubtful_in xs)) ≡ cond d (f x) 0 + sum (if_doubtful f) xs
    go true i = omega (arith, i)
    go false i = omega (arith, i)

pub sum-doubtful-le : (f : Block → ℕ) (xs : List Block) → sum f (doubtful_in xs) ≤ sum f xs
unfolding sum doubtful_in
sum-doubtful-le f [] = omega arith
sum-doubtful-le f (x ∷ xs) = go (is_doubtful x.head) (sum-doubtful-le f xs)
  where
    go : (d : Bool) → sum f (doubtful_in xs) ≤ sum f xs → sum f (cond d (x ∷ doubtful_in xs) (doubtful_in xs)) ≤ f x + sum f xs
    go true i = omega (arith, i)
    go false i = omega (arith, i)

pub doubtful-append : (a b : List Block) → doubtful_in (a ++ b) ≡ doubtful_in a ++ doubtful_in b
unfolding doubtful_in
doubtful-append [] b = refl
doubtful-append (x ∷ a) b = go (is_doubtful x.head) (doubtful-append a b)
  where
    go : (d : Bool) → doubtful_in (a ++ b) ≡ doubtful_in a ++ doubtful_in b → cond d (x ∷ doubtful_in (a ++ b)) (doubtful_in (a ++ b)) ≡ cond d (x ∷ doubtful_in a) (doubtful_in a) ++ doubtful_in b
    go true i = ap {B = List Block} (λ r. x ∷ r) i
    go false i = i

-- ---- what they claim

abbrev pub doubts_in : List Block → Pairs
doubts_in xs = claims_in (doubtful_in xs) none

pub doubts-ruled : (xs : List Block) → ObeyFrom 0 (doubts_in xs)
doubts-ruled xs = claims-ruled (doubtful_in xs) none tt

-- one block more
abbrev pub add_doubt : Block → Pairs → Pairs
add_doubt x ps = cond (is_doubtful x.head) (add_claim x ps) ps

pub doubts-insert : (a : List Block) (x : Block) (b : List Block) → doubts_in (a ++ x ∷ b) ≡ add_doubt x (doubts_in (a ++ b))
unfolding doubtful_in
doubts-insert a x b = rw (doubtful-append a (x ∷ b), doubtful-append a b) (go (is_doubtful x.head))
  where
    go : (d : Bool) → claims_in (doubtful_in a ++ cond d (x ∷ doubtful_in b) (doubtful_in b)) none ≡ cond d (add_claim x (claims_in (doubtful_in a ++ doubtful_in b) none)) (claims_in (doubtful_in a ++ doubtful_in b) none)
    go true = claims-insert (doubtful_in a) x (doubtful_in b) none tt
    go false = refl

-- only headers say
pub doubts-same : (a : List Block) (x y : Block) (b : List Block) → x.head ≡ y.head → doubts_in (a ++ x ∷ b) ≡ doubts_in (a ++ y ∷ b)
unfolding doubtful_in
doubts-same a x y b h =
    rw (doubtful-append a (x ∷ b), doubtful-append a (y ∷ b))
    (ap (λ d. claims_in (doubtful_in a ++ cond d (x ∷ doubtful_in b) (doubtful_in b)) none) (ap is_doubtful h) ∙ go (is_doubtful y.head))
  where
    go : (d : Bool) → claims_in (doubtful_in a ++ cond d (x ∷ doubtful_in b) (doubtful_in b)) none ≡ claims_in (doubtful_in a ++ cond d (y ∷ doubtful_in b) (doubtful_in b)) none
    go true = claims-same (doubtful_in a) x y (doubtful_in b) none h
    go false = refl
