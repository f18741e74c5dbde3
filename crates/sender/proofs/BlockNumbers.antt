-- The arithmetic of blocks: how many a file has, which go on a channel, and that no block is empty or past the file's end.
use Prim.Native.Nat.{ℕ, zero, suc, min, ◌+◌, ◌*◌, ◌/◌, ◌%◌, ◌≤◌, ◌<◌}
use mathlib.Core.Path.{◌≡◌, refl}
use native.Mathlib.Omega.{arith}
use native.Mathlib.Nat.{mod-lt, div-le_self, div-add-mod', le-mul_of_pos_right, mul-le-mul_right}
use native.Mathlib.Decide.{dec_lt, ℕ_discrete}
use borrow.Author.Tests.{eq-eqb, ne_eqb}
use Rattle.sender.specs.Blocks.{block_count}

-- the number of blocks by its two cases
pub count-even : (len size : ℕ) → len % size ≡ 0 → block_count len size ≡ len / size
unfolding block_count
count-even len size e = simp (eq-eqb _ _ e) (omega arith)

pub count-odd : (len size : ℕ) → 0 < len % size → block_count len size ≡ len / size + 1
unfolding block_count
count-odd len size h = simp (ne_eqb (len % size) 0 (λ e. omega (arith, e)))

-- the same as a quotient rounded up
pub rounded_up : (len size : ℕ) → len / size + min 1 (len % size) ≡ block_count len size
rounded_up len size = by (ℕ_discrete (len % size) 0)
  where
    by : Dec (len % size ≡ 0) → len / size + min 1 (len % size) ≡ block_count len size
    by (yes e) = omega (arith, e, count-even len size e)
    by (no n) = let h : 0 < len % size = omega (arith, n) in omega (arith, h, count-odd len size h)

-- there is a block k exactly where the file has a byte at k × size
pub starts_inside : (len size k : ℕ) → 0 < size → k < block_count len size → k * size < len
starts_inside len size k z h = by (ℕ_discrete (len % size) 0)
  where
    by : Dec (len % size ≡ 0) → k * size < len
    by (yes e) =
        let below : k + 1 ≤ len / size = omega (arith, count-even len size e) in
        omega (arith, div-add-mod' len size, mul-le-mul_right size below)
    by (no n) =
        let below : k ≤ len / size = omega (arith, count-odd len size (omega (arith, n))) in
        omega (arith, div-add-mod' len size, n, mul-le-mul_right size below)

pub block-there : (len size k : ℕ) → 0 < size → k * size < len → k < block_count len size
block-there len size k z h = by (dec_lt k (block_count len size)) (ℕ_discrete (len % size) 0)
  where
    by : Dec (k < block_count len size) → Dec (len % size ≡ 0) → k < block_count len size
    by (yes l) d = l
    by (no n) (yes e) =
        let above : len / size ≤ k = omega (arith, n, count-even len size e) in
        absurd (omega (arith, div-add-mod' len size, mul-le-mul_right size above))
    by (no n) (no m) =
        let above : len / size + 1 ≤ k = omega (arith, n, count-odd len size (omega (arith, m))) in
        absurd (omega (arith, div-add-mod' len size, mod-lt len z, mul-le-mul_right size above))

-- no more blocks than bytes
pub count_most : (len size : ℕ) → 0 < size → block_count len size ≤ len
count_most len size z = by (block_count len size) refl
  where
    by : (b : ℕ) → b ≡ block_count len size → b ≤ len
    by zero e = omega arith
    by (suc k) e = omega (arith, starts_inside len size k z (omega (arith, e)), le-mul_of_pos_right k z)

-- nor on one channel
pub share_most : (len size count : ℕ) → 0 < size → block_count len size / count ≤ len
share_most len size count z = omega (arith, count_most len size z, div-le_self (block_count len size) count)
