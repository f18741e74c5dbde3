-- The counts that a list of blocks gives.
use Prim.Native.Nat.{ℕ, ◌+◌, ◌≤◌}
use mathlib.Core.Path.{◌≡◌, refl, sym, ap, ◌∙◌}
use mathlib.Core.Logic.{◌⊎◌, inl, inr}
use mathlib.Core.Bool.{Bool, true, false, cond}
use mathlib.Core.List.{List, [], ◌∷◌, ◌++◌}
use native.Mathlib.Omega.{arith}
use native.Mathlib.Decide.{ℕ_discrete}
use borrow.Author.Tests.{eq-eqb, ne_eqb}
use lib.Dec.{eqb}
use Rattle.eblock.specs.Header.{third_of}
use Rattle.transfer.specs.Transfer.{sum}
use Rattle.transfer.specs.Header.{is_eodc}
use Rattle.transfer.specs.Block.{Block, counts_in}

pub counts-append : (a b : List Block) → counts_in (a ++ b) ≡ counts_in a ++ counts_in b
unfolding counts_in
counts-append [] b = refl
counts-append (x ∷ a) b = go (is_eodc x.head) (counts-append a b)
  where
    go : (t : Bool) → counts_in (a ++ b) ≡ counts_in a ++ counts_in b
        → cond t (third_of x.head ∷ counts_in (a ++ b)) (counts_in (a ++ b)) ≡ cond t (third_of x.head ∷ counts_in a) (counts_in a) ++ counts_in b
    go true i = ap {B = List ℕ} (λ r. third_of x.head ∷ r) i
    go false i = i

-- only headers count
pub counts_same : (a : List Block) (x y : Block) (b : List Block) → x.head ≡ y.head → counts_in (a ++ x ∷ b) ≡ counts_in (a ++ y ∷ b)
unfolding counts_in
counts_same a x y b h = rw (counts-append a (x ∷ b), counts-append a (y ∷ b), h)

pub counts-without : (a : List Block) (x : Block) (b : List Block) → is_eodc x.head ≡ false → counts_in (a ++ x ∷ b) ≡ counts_in (a ++ b)
unfolding counts_in
counts-without a x b h = rw (counts-append a (x ∷ b), counts-append a b, h)

pub append-nothing : (a b : List ℕ) → a ++ b ≡ [] → (a ≡ []) × (b ≡ [])
append-nothing [] b h = (refl, h)
append-nothing (x ∷ a) b h = let z : ◌≡◌ {A = ℕ} 0 1 = cc in absurd (omega arith)

-- a count put in anywhere among blocks without one is the only one
pub counts-first : (a : List Block) (x : Block) (b : List Block) → is_eodc x.head ≡ true → counts_in (a ++ b) ≡ [] → counts_in (a ++ x ∷ b) ≡ third_of x.head ∷ []
unfolding counts_in
counts-first a x b h k =
    let e : (counts_in a ≡ []) × (counts_in b ≡ []) = append-nothing (counts_in a) (counts_in b) (sym (counts-append a b) ∙ k) in
    rw (counts-append a (x ∷ b), h, e.0, e.1)

-- a number of each count, added up
pub sum-counts : (f : ℕ → ℕ) (xs : List Block) → sum f (counts_in xs) ≡ sum (λ (x : Block). cond (is_eodc x.head) (f (third_of x.head)) 0) xs
unfolding sum counts_in
sum-counts f [] = refl
sum-counts f (x ∷ xs) = go (is_eodc x.head) (sum-counts f xs)
  where
    go : (t : Bool) → sum f (counts_in xs) ≡ sum (λ (x : Block). cond (is_eodc x.head) (f (third_of x.head)) 0) xs
        → sum f (cond t (third_of x.head ∷ counts_in xs) (counts_in xs)) ≡ cond t (f (third_of x.head)) 0 + sum (λ (x : Block). cond (is_eodc x.head) (f (third_of x.head)) 0) xs
    go true i = omega (arith, i)
    go false i = omega (arith, i)

-- by every number added up, counts are no more than the one count n
pub at_most_one : (n : ℕ) (cs : List ℕ) → ((f : ℕ → ℕ) → sum f cs ≤ f n) → (cs ≡ []) ⊎ (cs ≡ n ∷ [])
unfolding sum
at_most_one n [] h = inl refl
at_most_one n (k ∷ []) h = inr (same (ℕ_discrete k n))
  where
    same : Dec (k ≡ n) → k ∷ [] ≡ n ∷ []
    same (yes e) = rw e
    same (no e) = let z : ◌≤◌ 1 0 = rw (ne_eqb k n e, eq-eqb n n refl) at (h (λ m. cond (eqb m n) 0 1)) in absurd (omega arith)
at_most_one n (k ∷ m ∷ cs) h = absurd (omega (arith, h (λ x. 1)))

pub exactly-one : (n : ℕ) (cs : List ℕ) → ((f : ℕ → ℕ) → sum f cs ≡ f n) → cs ≡ n ∷ []
unfolding sum
exactly-one n cs h = go (at_most_one n cs (λ f. omega (arith, h f)))
  where
    go : (cs ≡ []) ⊎ (cs ≡ n ∷ []) → cs ≡ n ∷ []
    go (inl e) = absurd (omega (arith, rw e at (h (λ x. 1))))
    go (inr e) = e
