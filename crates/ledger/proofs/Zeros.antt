-- Numbers that are all 0: in every part, and in one OR over them.
use Prim.Native.Nat.{ℕ, zero, suc, ◌+◌, ◌*◌}
use mathlib.Core.Path.{◌≡◌, refl, sym, ap, ◌∙◌}
use mathlib.Core.Bool.{true, ◌&&◌, and-true, and_assoc, and-eq-true_iff}
use mathlib.Core.List.{List, [], ◌∷◌}
use native.Mathlib.Omega.{arith}
use borrow.Author.Tests.{ne_eqb}
use lib.Bits.{bit_or, or_zero_l, or_add_and, and_le_r}
use lib.Dec.{eqb}
use lib.ListN.{take, drop}
use lib.Seq.{drop-drop}
use Rattle.std.specs.List.{fold}
use Rattle.std.specs.Simd.{first_chunks}
use Rattle.ledger.specs.Ledger.{all_zero}

-- ---- a part

pub zeros-take : (n : ℕ) (l : List ℕ) → all_zero l ≡ true → all_zero (take n l) ≡ true
unfolding all_zero
zeros-take zero l h = refl
zeros-take (suc n) [] h = refl
zeros-take (suc n) (x ∷ xs) h =
    let e = (and-eq-true_iff (eqb x 0) (all_zero xs)).0 h in
    rw (e.0, zeros-take n xs e.1)

pub zeros-drop : (n : ℕ) (l : List ℕ) → all_zero l ≡ true → all_zero (drop n l) ≡ true
unfolding all_zero
zeros-drop zero l h = h
zeros-drop (suc n) [] h = refl
zeros-drop (suc n) (x ∷ xs) h = zeros-drop n xs ((and-eq-true_iff (eqb x 0) (all_zero xs)).0 h).1

-- ---- one OR

pub or-zero : (a b : ℕ) → eqb (bit_or a b) 0 ≡ (eqb a 0 && eqb b 0)
or-zero zero b = ap (λ k. eqb k 0) (or_zero_l b)
or-zero (suc a) b =
    rw (ne_eqb (suc a) 0 (λ e. omega arith)) (ne_eqb (bit_or (suc a) b) 0 (λ e. omega (arith, or_add_and (suc a) b, and_le_r (suc a) b)))

-- over all of them
pub fold-zeros : (any : ℕ) (l : List ℕ) → eqb (fold bit_or any l) 0 ≡ (eqb any 0 && all_zero l)
unfolding all_zero
fold-zeros any [] = sym (and-true (eqb any 0))
fold-zeros any (x ∷ xs) = fold-zeros (bit_or any x) xs ∙ rw (or-zero any x) (and_assoc (eqb any 0) (eqb x 0) (all_zero xs))

-- ---- by blocks

zeros-split : (n : ℕ) (l : List ℕ) → (all_zero (take n l) && all_zero (drop n l)) ≡ all_zero l
unfolding all_zero
zeros-split zero l = refl
zeros-split (suc n) [] = refl
zeros-split (suc n) (x ∷ xs) = and_assoc (eqb x 0) (all_zero (take n xs)) (all_zero (drop n xs)) ∙ ap (λ b. eqb x 0 && b) (zeros-split n xs)

-- a block joined to what was gathered
abbrev pub with_block : ℕ → List ℕ → ℕ
with_block any block = bit_or any (fold bit_or 0 block)

with_block-zero : (any : ℕ) (block : List ℕ) → eqb (with_block any block) 0 ≡ (eqb any 0 && all_zero block)
with_block-zero any block = or-zero any (fold bit_or 0 block) ∙ ap (λ b. eqb any 0 && b) (fold-zeros 0 block)

pub blocks-zero : (k any : ℕ) (l : List ℕ) → (eqb (fold with_block any (first_chunks 64 k l)) 0 && all_zero (drop (k * 64) l)) ≡ (eqb any 0 && all_zero l)
blocks-zero zero any l = refl
blocks-zero (suc k) any l =
    let d : drop (suc k * 64) l ≡ drop (k * 64) (drop 64 l) = let n : suc k * 64 ≡ 64 + k * 64 = omega arith in rw n (sym (drop-drop (k * 64) 64 l)) in
    rw d (blocks-zero k (with_block any (take 64 l)) (drop 64 l)
    ∙ rw (with_block-zero any (take 64 l)) (and_assoc (eqb any 0) (all_zero (take 64 l)) (all_zero (drop 64 l)) ∙ ap (λ b. eqb any 0 && b) (zeros-split 64 l)))
