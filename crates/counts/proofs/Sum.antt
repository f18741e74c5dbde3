-- A sum over the channels.
use Prim.Native.Nat.{ℕ, ◌+◌, ◌≤◌, min}
use mathlib.Core.Path.{◌≡◌, refl, sym, ◌∙◌}
use mathlib.Core.Bool.{Bool, true, false, cond}
use mathlib.Core.List.{List, [], ◌∷◌, map}
use native.Mathlib.Omega.{arith}
use lib.Dec.{eqb}
use lib.ListN.{length, length-map}
use Rattle.std.specs.List.{fold}
use Rattle.transfer.specs.declared.state.Channel.{Channel}
use Rattle.transfer.specs.Transfer.{sum, one_if_ended}

-- the number of elements of a struct's array, from what is known of their images
pub length-mapped : (X Y : Type 0) (f : X → Y) (l : List X) (n : ℕ) → length (map f l) ≡ n → length l ≡ n
length-mapped X Y f l n p = sym (length-map l f) ∙ p

pub sum-cons : (f : Channel → ℕ) (k : Channel) (ks : List Channel) → sum f (k ∷ ks) ≡ f k + sum f ks
unfolding sum
sum-cons f k ks = refl

pub ended-le : (k : Channel) → one_if_ended k ≤ 1
ended-le k = le-one (eqb k.state 4)
  where
    le-one : (b : Bool) → ◌≤◌ (cond b 1 0) 1
    le-one true = omega arith
    le-one false = omega arith

pub ended_all : (ks : List Channel) → sum one_if_ended ks ≤ length ks
unfolding sum
ended_all [] = omega arith
ended_all (k ∷ ks) = omega (arith, ended-le k, ended_all ks)

-- a number of each channel added to n
pub fold-adds : (f : Channel → ℕ) (ks : List Channel) (n : ℕ) → fold (λ a k. a + f k) n ks ≡ n + sum f ks
unfolding sum
fold-adds f [] n = omega arith
fold-adds f (k ∷ ks) n = omega (arith, fold-adds f ks (n + f k))

-- a number of each channel added, up to a largest number m
pub fold-saturates : (m : ℕ) (f : Channel → ℕ) (ks : List Channel) (n : ℕ) → n ≤ m → fold (λ a k. min m (a + f k)) n ks ≡ min m (n + sum f ks)
unfolding sum
fold-saturates m f [] n h = omega arith
fold-saturates m f (k ∷ ks) n h = omega (arith, fold-saturates m f ks (min m (n + f k)) (omega arith))
