-- What a channel is given, block by block: its blocks with bytes and then its ending, and the bytes of the first n blocks.
use Prim.Native.Nat.{ℕ, zero, suc, ◌+◌, ◌*◌, ◌%◌, ◌≤◌, ◌<◌}
use mathlib.Core.Path.{◌≡◌, refl, ◌∙◌}
use mathlib.Core.Bool.{Bool, true, false, cond}
use mathlib.Core.List.{List, [], ◌∷◌, ◌++◌, append_assoc, append-nil}
use native.Mathlib.Omega.{arith}
use native.Mathlib.Decide.{dec_lt, ℕ_discrete, le_ind}
use native.Mathlib.Numerals.{add-one}
use native.Mathlib.Nat.{add-zero}
use lib.Dec.{ltb, eqb}
use lib.ListN.{length, get_or, length-append, get_or-append}
use lib.Seq.{get_or-append_seam}
use borrow.Author.Tests.{lt-ltb, le-ltb, eq-eqb, ne_eqb}
use Rattle.eblock.proofs.HeaderFields.{length-bytes_of}
use Rattle.transfer.specs.Block.{Block, block_bytes}
use Rattle.transfer.proofs.BlockCut.{block_bytes-append}
use Rattle.sender.specs.Blocks.{block_count, data_block, ending, data_blocks_on, channel_blocks, blocks_on, block_on}
use Rattle.sender.specs.Sends.{Front}
use Rattle.sender.proofs.ChannelShares.{share-none, share-at, share-has, share-next}

-- the first n blocks that channel c is given
unfoldable pub first_on : List ℕ → ℕ → ℕ → ℕ → ℕ → List Block
first_on file count size c zero = []
first_on file count size c (suc n) = first_on file count size c n ++ (block_on file count size c n ∷ [])

module _ (file : List ℕ) (count size c : ℕ) where
  -- a block by its two cases
  pub block-is : (i : ℕ) → i < blocks_on (block_count (length file) size) count c → block_on file count size c i ≡ data_block file size (i * count + c)
  unfolding block_on
  block-is i h = rw (lt-ltb i _ h)

  pub ending-is : (i : ℕ) → blocks_on (block_count (length file) size) count c ≤ i → block_on file count size c i ≡ ending count c
  unfolding block_on
  ending-is i h = rw (le-ltb i _ h)

  -- the channel's share of the first n blocks
  share-run : c < count → (n : ℕ) → n ≤ block_count (length file) size → first_on file count size c (blocks_on n count c) ≡ data_blocks_on file count size c n
  unfolding first_on data_blocks_on
  share-run h zero k = rw (share-none count c)
  share-run h (suc n) k = rw (share-next n count c h) (by (ℕ_discrete (n % count) c) (share-run h n (omega arith)))
    where
      by : Dec (n % count ≡ c) → first_on file count size c (blocks_on n count c) ≡ data_blocks_on file count size c n
          → first_on file count size c (blocks_on n count c + cond (eqb (n % count) c) 1 0) ≡ data_blocks_on file count size c (suc n)
      by (yes e) i =
          let at : blocks_on n count c * count + c ≡ n = share-at n count c e in
          let there : blocks_on n count c < blocks_on (block_count (length file) size) count c = share-has _ count c _ h (omega arith) in
          rw (eq-eqb (n % count) c e, add-one (blocks_on n count c), i, block-is _ there, at)
      by (no e) i = rw (ne_eqb (n % count) c e, add-zero (blocks_on n count c), i, append-nil (data_blocks_on file count size c n))

  -- one after the other they are all that the channel is given
  pub run_is : c < count → first_on file count size c (blocks_on (block_count (length file) size) count c + 1) ≡ channel_blocks file count size c
  unfolding first_on channel_blocks
  run_is h =
      let B = block_count (length file) size in
      rw (add-one (blocks_on B count c), share-run h B (omega arith), ending-is (blocks_on B count c) (omega arith))

  -- so each of them has its number there
  length-first : (n : ℕ) → length (first_on file count size c n) ≡ n
  unfolding first_on
  length-first zero = refl
  length-first (suc n) = simp length-append (omega (arith, length-first n))

  first-at : (n i : ℕ) (d : Block) → i < n → get_or (first_on file count size c n) i d ≡ block_on file count size c i
  unfolding first_on
  first-at zero i d h = absurd (omega arith)
  first-at (suc n) i d h = by (dec_lt i n) (first-at n i d)
    where
      by : Dec (i < n) → (i < n → get_or (first_on file count size c n) i d ≡ block_on file count size c i)
          → get_or (first_on file count size c n ++ (block_on file count size c n ∷ [])) i d ≡ block_on file count size c i
      by (yes l) r = rw (get_or-append (first_on file count size c n) (block_on file count size c n ∷ []) d i (omega (arith, length-first n))) (r l)
      by (no g) r =
          let e : i ≡ n = omega arith in
          rw e (rw (length-first n) at (get_or-append_seam (first_on file count size c n) (block_on file count size c n) [] d))

  pub run_length : c < count → length (channel_blocks file count size c) ≡ blocks_on (block_count (length file) size) count c + 1
  run_length h = rw (← run_is h) (length-first _)

  pub run_at : c < count → (i : ℕ) (d : Block) → i ≤ blocks_on (block_count (length file) size) count c → get_or (channel_blocks file count size c) i d ≡ block_on file count size c i
  run_at h i d k = rw (← run_is h) (first-at _ i d (omega arith))

-- ---- their bytes

pub bytes-snoc : (xs : List Block) (x : Block) → block_bytes (xs ++ (x ∷ [])) ≡ block_bytes xs ++ (x.head ++ x.body)
unfolding block_bytes
bytes-snoc xs x = block_bytes-append xs (x ∷ []) ∙ rw (append-nil x.body)

-- the bytes of the first n blocks
abbrev pub bytes_on : List ℕ → ℕ → ℕ → ℕ → ℕ → List ℕ
bytes_on file count size c n = block_bytes (first_on file count size c n)

module _ (file : List ℕ) (count size c : ℕ) where
  -- each header has 17 bytes
  pub length-head : (i : ℕ) → length (block_on file count size c i).head ≡ 17
  unfolding block_on data_block ending
  length-head i = by (ltb i (blocks_on (block_count (length file) size) count c)) (either (eqb c 0) _ _ (length-bytes_of _ _ _) (length-bytes_of _ _ _))
    where
      either : (t : Bool) (h g : List ℕ) → length h ≡ 17 → length g ≡ 17 → length (cond t h g) ≡ 17
      either true h g a b = a
      either false h g a b = b

      by : (t : Bool) → length (ending count c).head ≡ 17 → length (cond t (data_block file size (i * count + c)) (ending count c)).head ≡ 17
      by true e = length-bytes_of _ _ _
      by false e = e

  -- one block more is its bytes more
  pub bytes_next : (n : ℕ) → bytes_on file count size c (suc n) ≡ bytes_on file count size c n ++ ((block_on file count size c n).head ++ (block_on file count size c n).body)
  unfolding first_on
  bytes_next n = bytes-snoc (first_on file count size c n) (block_on file count size c n)

  longer-next : (n : ℕ) → length (bytes_on file count size c n) < length (bytes_on file count size c (suc n))
  longer-next n = rw (bytes_next n) (simp length-append (omega (arith, length-head n)))

  -- the bytes of fewer blocks are the front of those of more, and are fewer
  pub first_on-front : (i n : ℕ) → i ≤ n → Front (bytes_on file count size c i) (bytes_on file count size c n)
  first_on-front i n h = le_ind (λ m. Front (bytes_on file count size c i) (bytes_on file count size c m)) ([], append-nil _) next n h
    where
      next : (m : ℕ) → i ≤ m → Front (bytes_on file count size c i) (bytes_on file count size c m) → Front (bytes_on file count size c i) (bytes_on file count size c (suc m))
      next m k (r, e) = (r ++ ((block_on file count size c m).head ++ (block_on file count size c m).body), rw (bytes_next m, ← e, append_assoc (bytes_on file count size c i) r))

  pub first_on-longer : (i n : ℕ) → i < n → length (bytes_on file count size c i) < length (bytes_on file count size c n)
  first_on-longer i n h = le_ind (λ m. length (bytes_on file count size c i) < length (bytes_on file count size c m)) (longer-next i) (λ m k l. omega (arith, longer-next m)) n h
