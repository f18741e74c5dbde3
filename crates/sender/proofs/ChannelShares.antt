-- The share of a channel: of B blocks it is given those whose number leaves the rest c when divided by the count, as its block 0, 1, 2 ..
use Prim.Native.Nat.{ℕ, zero, suc, ◌+◌, ◌*◌, ◌/◌, ◌%◌, ◌≤◌, ◌<◌}
use mathlib.Core.Path.{◌≡◌, refl, sym, ap, ◌∙◌}
use mathlib.Core.Bool.{cond}
use native.Mathlib.Omega.{arith}
use native.Mathlib.Nat.{zero-div, zero-mod, mod-lt, div-add-mod', mul-le-mul_right, le-mul_of_pos_right}
use native.Mathlib.Decide.{dec_lt, ℕ_discrete}
use lib.Arith.{digits_div, digits_mod}
use lib.Dec.{eqb}
use borrow.Author.Tests.{lt-ltb, le-ltb, eq-eqb, ne_eqb}
use Rattle.sender.specs.Blocks.{blocks_on}

-- block i of channel c is the file's block i × count + c
pub number-mod : (i count c : ℕ) → c < count → (i * count + c) % count ≡ c
number-mod i count c h = digits_mod i h

pub number-div : (i count c : ℕ) → c < count → (i * count + c) / count ≡ i
number-div i count c h = digits_div i h

-- no blocks, no share
pub share-none : (count c : ℕ) → blocks_on 0 count c ≡ 0
unfolding blocks_on
share-none count c = simp (zero-div, zero-mod, le-ltb c 0 (omega arith)) (omega arith)

module _ (B count c : ℕ) where
  -- the share by its two cases
  pub share-more : c < B % count → blocks_on B count c ≡ B / count + 1
  unfolding blocks_on
  share-more h = simp (lt-ltb c (B % count) h)

  pub share-even : B % count ≤ c → blocks_on B count c ≡ B / count
  unfolding blocks_on
  share-even h = simp (le-ltb c (B % count) h) (omega arith)

  -- where the next block would go on channel c, it is the one after the channel's share
  pub share-at : B % count ≡ c → blocks_on B count c * count + c ≡ B
  share-at e = rw (share-even (omega arith)) (omega (arith, div-add-mod' B count))

-- channel c has a block i exactly where there is a block i × count + c
pub share-below : (B count c i : ℕ) → c < count → i < blocks_on B count c → i * count + c < B
share-below B count c i h k = by (dec_lt c (B % count))
  where
    by : Dec (c < B % count) → i * count + c < B
    by (yes l) =
        let below : i ≤ B / count = omega (arith, share-more B count c l) in
        omega (arith, div-add-mod' B count, mul-le-mul_right count below)
    by (no n) =
        let below : i + 1 ≤ B / count = omega (arith, share-even B count c (omega (arith, n))) in
        omega (arith, div-add-mod' B count, mul-le-mul_right count below)

pub share-has : (B count c i : ℕ) → c < count → i * count + c < B → i < blocks_on B count c
share-has B count c i h k = by (dec_lt i (blocks_on B count c)) (dec_lt c (B % count))
  where
    z : 0 < count
    z = omega arith

    by : Dec (i < blocks_on B count c) → Dec (c < B % count) → i < blocks_on B count c
    by (yes l) d = l
    by (no n) (yes l) =
        let above : B / count + 1 ≤ i = omega (arith, n, share-more B count c l) in
        absurd (omega (arith, div-add-mod' B count, mod-lt B z, mul-le-mul_right count above))
    by (no n) (no m) =
        let above : B / count ≤ i = omega (arith, n, share-even B count c (omega (arith, m))) in
        absurd (omega (arith, div-add-mod' B count, m, mul-le-mul_right count above))

module _ (B count c : ℕ) (h : c < count) where
  -- after the share, the channel's next block would be none of the B, and less than the count past them
  pub share-ends : B ≤ blocks_on B count c * count + c
  share-ends = by (dec_lt (blocks_on B count c * count + c) B)
    where
      by : Dec (blocks_on B count c * count + c < B) → B ≤ blocks_on B count c * count + c
      by (yes l) = absurd (omega (arith, share-has B count c (blocks_on B count c) h l))
      by (no n) = omega (arith, n)

  pub share-near : blocks_on B count c * count + c < B + count
  share-near = by (blocks_on B count c) (share-below B count c)
    where
      by : (n : ℕ) → ((i : ℕ) → c < count → i < n → i * count + c < B) → n * count + c < B + count
      by zero k = omega arith
      by (suc n) k = omega (arith, k n h (omega arith))

  -- no other number has both
  pub share-is : (n : ℕ) → B ≤ n * count + c → n * count + c < B + count → blocks_on B count c ≡ n
  share-is n a b = by (dec_lt n (blocks_on B count c)) (dec_lt (blocks_on B count c) n)
    where
      by : Dec (n < blocks_on B count c) → Dec (blocks_on B count c < n) → blocks_on B count c ≡ n
      by (yes l) d = absurd (omega (arith, share-below B count c n h l))
      by (no l) (yes g) =
          let less : blocks_on B count c + 1 ≤ n = omega (arith, g) in
          absurd (omega (arith, share-ends, mul-le-mul_right count less))
      by (no l) (no g) = omega (arith, l, g)

-- one block more is one more on the channel that it goes on, and none on the others
pub share-next : (B count c : ℕ) → c < count → blocks_on (suc B) count c ≡ blocks_on B count c + cond (eqb (B % count) c) 1 0
share-next B count c h = by (ℕ_discrete (B % count) c)
  where
    m : ℕ
    m = blocks_on B count c

    by : Dec (B % count ≡ c) → blocks_on (suc B) count c ≡ blocks_on B count c + cond (eqb (B % count) c) 1 0
    by (yes e) = simp (eq-eqb _ _ e) (share-is (suc B) count c h (m + 1) (omega (arith, share-at B count c e)) (omega (arith, share-at B count c e)))
    by (no e) =
        let other : m * count + c ≡ B → ⊥ = λ q. e (sym (ap (λ k. k % count) q) ∙ number-mod m count c h) in
        simp (ne_eqb _ _ e) (share-is (suc B) count c h (m + 0) (omega (arith, other, share-ends B count c h)) (omega (arith, share-near B count c h)))

-- no more than all
pub share-most : (B count c : ℕ) → c < count → blocks_on B count c ≤ B
share-most B count c h = by (blocks_on B count c) refl
  where
    by : (n : ℕ) → n ≡ blocks_on B count c → n ≤ B
    by zero e = omega arith
    by (suc i) e = omega (arith, share-below B count c i h (omega (arith, e)), le-mul_of_pos_right {m = count} i (omega arith))
