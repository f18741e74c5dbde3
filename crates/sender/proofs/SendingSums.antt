-- A number added up over all blocks of a sending is what it adds up to over the blocks k and over the endings.
use Prim.Native.Nat.{ℕ, zero, suc, ◌+◌, ◌%◌, ◌≤◌, ◌<◌}
use mathlib.Core.Path.{◌≡◌, refl, sym, ◌∙◌}
use mathlib.Core.Bool.{Bool, true, false, cond}
use mathlib.Core.List.{List, [], ◌∷◌, ◌++◌}
use native.Mathlib.Omega.{arith}
use native.Mathlib.Nat.{mod-lt}
use native.Mathlib.Decide.{ℕ_discrete}
use borrow.Author.Tests.{eq-eqb, ne_eqb}
use lib.Dec.{eqb}
use lib.ListN.{length}
use Rattle.transfer.specs.Transfer.{sum}
use Rattle.transfer.specs.Block.{Block}
use Rattle.transfer.specs.Sending.{SentChannel, sent_blocks}
use Rattle.transfer.proofs.BlockClaims.{sum-append}
use Rattle.sender.specs.Blocks.{block_count, data_block, ending, data_blocks_on, channel_blocks, channels_below, sending}

-- f 0 + .. + f (n - 1)
unfoldable pub sum_below : (ℕ → ℕ) → ℕ → ℕ
sum_below f zero = 0
sum_below f (suc n) = sum_below f n + f n

-- ---- sums below n

-- of two that are equal below n
pub sum_below-same : (f g : ℕ → ℕ) (n : ℕ) → ((k : ℕ) → k < n → f k ≡ g k) → sum_below f n ≡ sum_below g n
unfolding sum_below
sum_below-same f g zero h = refl
sum_below-same f g (suc n) h = omega (arith, sum_below-same f g n (λ k l. h k (omega arith)), h n (omega arith))

-- where each is 0
pub sum_below-zero : (f : ℕ → ℕ) (n : ℕ) → ((k : ℕ) → k < n → f k ≡ 0) → sum_below f n ≡ 0
unfolding sum_below
sum_below-zero f zero h = refl
sum_below-zero f (suc n) h = omega (arith, sum_below-zero f n (λ k l. h k (omega arith)), h n (omega arith))

-- only f j counts
pub sum_below-only : (f : ℕ → ℕ) (n j : ℕ) → j < n → ((k : ℕ) → k < n → (k ≡ j → ⊥) → f k ≡ 0) → sum_below f n ≡ f j
unfolding sum_below
sum_below-only f zero j l h = absurd (omega arith)
sum_below-only f (suc n) j l h = go (ℕ_discrete n j) (λ m. sum_below-only f n j m (λ k i d. h k (omega arith) d))
  where
    go : Dec (n ≡ j) → (j < n → sum_below f n ≡ f j) → sum_below f n + f n ≡ f j
    go (yes e) i = rw (← e) (omega (arith, sum_below-zero f n (λ k m. h k (omega arith) (λ d. omega arith))))
    go (no d) i = omega (arith, i (omega arith), h n (omega arith) d)

-- a number that counts at c alone
pub sum_below-at : (v c n : ℕ) → c < n → sum_below (λ d. cond (eqb d c) v 0) n ≡ v
sum_below-at v c n h = sum_below-only (λ d. cond (eqb d c) v 0) n c h (λ d l e. rw (ne_eqb d c e)) ∙ rw (eq-eqb c c refl)

-- numbers of at most 1
pub sum_below-most : (f : ℕ → ℕ) (n : ℕ) → ((k : ℕ) → f k ≤ 1) → sum_below f n ≤ n
unfolding sum_below
sum_below-most f zero h = omega arith
sum_below-most f (suc n) h = omega (arith, sum_below-most f n h, h n)

-- of two, added up first
pub sum_below-plus : (f g : ℕ → ℕ) (n : ℕ) → sum_below (λ k. f k + g k) n ≡ sum_below f n + sum_below g n
unfolding sum_below
sum_below-plus f g zero = refl
sum_below-plus f g (suc n) = omega (arith, sum_below-plus f g n)

-- in either order
sum_below-swap : (h : ℕ → ℕ → ℕ) (n m : ℕ) → sum_below (λ c. sum_below (h c) m) n ≡ sum_below (λ k. sum_below (λ c. h c k) n) m
unfolding sum_below
sum_below-swap h zero m = sym (sum_below-zero (λ k. 0) m (λ k l. refl))
sum_below-swap h (suc n) m = omega (arith, sum_below-swap h n m, sum_below-plus (λ k. sum_below (λ c. h c k) n) (h n) m)

-- ---- the blocks of a sending

-- over the channels below n
pub sum-channels : (g : SentChannel → ℕ) (file : List ℕ) (count size n : ℕ)
    → sum g (channels_below file count size n) ≡ sum_below (λ c. g (record { number = c; blocks = channel_blocks file count size c })) n
unfolding sum sum_below channels_below
sum-channels g file count size zero = refl
sum-channels g file count size (suc c) =
    omega (arith, sum-channels g file count size c, sum-append g (channels_below file count size c) (record { number = c; blocks = channel_blocks file count size c } ∷ []))

-- over all blocks, channel by channel
sum-sent_blocks : (f : Block → ℕ) (s : List SentChannel) → sum f (sent_blocks s) ≡ sum (λ (x : SentChannel). sum f x.blocks) s
unfolding sum sent_blocks
sum-sent_blocks f [] = refl
sum-sent_blocks f (x ∷ s) = omega (arith, sum-append f x.blocks (sent_blocks s), sum-sent_blocks f s)

-- what block k adds on channel c
abbrev added : (Block → ℕ) → List ℕ → ℕ → ℕ → ℕ → ℕ → ℕ
added f file count size c k = cond (eqb (k % count) c) (f (data_block file size k)) 0

-- over the blocks with bytes of one channel
sum-on : (f : Block → ℕ) (file : List ℕ) (count size c n : ℕ) → sum f (data_blocks_on file count size c n) ≡ sum_below (added f file count size c) n
unfolding sum sum_below data_blocks_on
sum-on f file count size c zero = refl
sum-on f file count size c (suc k) = go (eqb (k % count) c) (sum-on f file count size c k)
  where
    go : (b : Bool) → sum f (data_blocks_on file count size c k) ≡ sum_below (added f file count size c) k
        → sum f (data_blocks_on file count size c k ++ cond b (data_block file size k ∷ []) []) ≡ sum_below (added f file count size c) k + cond b (f (data_block file size k)) 0
    go true i = omega (arith, i, sum-append f (data_blocks_on file count size c k) (data_block file size k ∷ []))
    go false i = omega (arith, i, sum-append f (data_blocks_on file count size c k) [])

-- over all blocks
pub sum-sent : (f : Block → ℕ) (file : List ℕ) (count size : ℕ) → 0 < count
    → sum f (sent_blocks (sending file count size)) ≡ sum_below (λ k. f (data_block file size k)) (block_count (length file) size) + sum_below (λ c. f (ending count c)) count
unfolding sum channel_blocks
sum-sent f file count size z =
    let B = block_count (length file) size in
    omega (
      arith,
      sum-sent_blocks f (sending file count size),
      sum-channels (λ (x : SentChannel). sum f x.blocks) file count size count,
      sum_below-same (λ c. sum f (channel_blocks file count size c)) (λ c. sum_below (added f file count size c) B + f (ending count c)) count (λ c l. one c),
      sum_below-plus (λ c. sum_below (added f file count size c) B) (λ c. f (ending count c)) count,
      sum_below-swap (added f file count size) count B,
      sum_below-same (λ k. sum_below (λ c. added f file count size c k) count) (λ k. f (data_block file size k)) B (λ k l. on_one k),
    )
  where
    one : (c : ℕ) → sum f (channel_blocks file count size c) ≡ sum_below (added f file count size c) (block_count (length file) size) + f (ending count c)
    one c = omega (arith, sum-append f (data_blocks_on file count size c (block_count (length file) size)) (ending count c ∷ []), sum-on f file count size c (block_count (length file) size))

    -- block k goes on one channel
    on_one : (k : ℕ) → sum_below (λ c. added f file count size c k) count ≡ f (data_block file size k)
    on_one k =
        sum_below-only (λ c. added f file count size c k) count (k % count) (mod-lt k z) (λ c l d. rw (ne_eqb (k % count) c (λ e. d (sym e))))
        ∙ rw (eq-eqb (k % count) (k % count) refl)
