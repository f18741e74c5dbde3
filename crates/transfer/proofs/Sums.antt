-- Sums over a list: with one element changed, against one or two of its elements, and where at most one element counts.
use Prim.Native.Nat.{ℕ, zero, suc, ◌+◌, ◌≤◌, ◌<◌}
use mathlib.Core.Path.{◌≡◌}
use mathlib.Core.List.{List, [], ◌∷◌}
use native.Mathlib.Omega.{arith}
use native.Mathlib.Decide.{ℕ_discrete}
use lib.ListN.{length, get_or, set}
use Rattle.transfer.specs.Transfer.{sum}

module _ {A : Type 0} (f : A → ℕ) (d : A) where
  pub sum-set : (xs : List A) (c : ℕ) (x : A) → c < length xs → sum f (set xs c x) + f (get_or xs c d) ≡ sum f xs + f x
  unfolding sum
  sum-set [] c x h = absurd (omega arith)
  sum-set (y ∷ xs) zero x h = omega arith
  sum-set (y ∷ xs) (suc c) x h = omega (arith, sum-set xs c x (omega arith))

  pub one_of : (xs : List A) (c : ℕ) → c < length xs → f (get_or xs c d) ≤ sum f xs
  unfolding sum
  one_of [] c h = absurd (omega arith)
  one_of (y ∷ xs) zero h = omega arith
  one_of (y ∷ xs) (suc c) h = omega (arith, one_of xs c (omega arith))

  pub two-of : (xs : List A) (b c : ℕ) → b < c → c < length xs → f (get_or xs b d) + f (get_or xs c d) ≤ sum f xs
  unfolding sum
  two-of [] b c g h = absurd (omega arith)
  two-of (y ∷ xs) b zero g h = absurd (omega arith)
  two-of (y ∷ xs) zero (suc c) g h = omega (arith, one_of xs c (omega arith))
  two-of (y ∷ xs) (suc b) (suc c) g h = omega (arith, two-of xs b c (omega arith) (omega arith))

  -- each is at most m, which is 0 or 1, and no two are 1
  pub sum-apart : (m : ℕ) (xs : List A) → m ≤ 1 → ((c : ℕ) → c < length xs → f (get_or xs c d) ≤ m)
      → ((b c : ℕ) → b < c → c < length xs → f (get_or xs b d) + f (get_or xs c d) ≤ 1) → sum f xs ≤ m
  unfolding sum
  sum-apart m [] h e a = omega arith
  sum-apart m (y ∷ xs) h e a = go (ℕ_discrete (f y) 0) (λ n g k. sum-apart n xs g k (λ b c u v. a (suc b) (suc c) (omega arith) (omega arith)))
    where
      go : Dec (f y ≡ 0) → ((n : ℕ) → n ≤ 1 → ((c : ℕ) → c < length xs → f (get_or xs c d) ≤ n) → sum f xs ≤ n) → f y + sum f xs ≤ m
      go (yes z) i = omega (arith, i m h (λ c u. e (suc c) (omega arith)))
      go (no z) i = omega (arith, e 0 (omega arith), i 0 (omega arith) (λ c u. omega (arith, a 0 (suc c) (omega arith) (omega arith))))
