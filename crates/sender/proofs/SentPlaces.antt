-- The places that the blocks sent name, and that each place of the file is in one of them, with its byte.
use Prim.Native.Nat.{ℕ, ◌+◌, ◌*◌, ◌-◌, ◌/◌, ◌^◌, ◌≤◌, ◌<◌, min}
use mathlib.Core.Path.{◌≡◌, refl, sym, ap, ◌∙◌}
use mathlib.Core.Logic.{inl, inr}
use mathlib.Core.Bool.{Bool, true, false, cond}
use mathlib.Core.List.{List, [], ◌∷◌, ◌++◌}
use native.Mathlib.Omega.{arith}
use native.Mathlib.Nat.{mod-lt, div-add-mod', mul-le-mul_right}
use native.Mathlib.Decide.{dec_lt}
use lib.Dec.{eqb}
use lib.ListN.{length, get_or, take, drop, length-take, length-drop}
use lib.Seq.{get_or-take, get_or-drop}
use Rattle.ledger.specs.Pairs.{in_range}
use Rattle.ledger.proofs.PairsPlaces.{in_range-in, in_range-under, in_range-past, Where, under, within, past, stand}
use Rattle.eblock.specs.Descriptor.{has, eodc}
use Rattle.eblock.specs.Header.{header_bytes}
use Rattle.eblock.proofs.HeaderFields.{second-reads-back, third-reads-back}
use Rattle.transfer.specs.Transfer.{sum}
use Rattle.transfer.specs.Header.{payload_length}
use Rattle.transfer.specs.Block.{Block, place_of, size_of}
use Rattle.transfer.specs.AfterList.{HasByte, PayloadsInFile}
use Rattle.transfer.specs.Sending.{sent_blocks, payloads_holding}
use Rattle.transfer.proofs.BlockClaims.{hit_by}
use Rattle.sender.specs.Blocks.{block_count, block_length, data_block, ending, sending}
use Rattle.sender.specs.Sends.{ExactlyOnce}
use Rattle.sender.proofs.BlockNumbers.{starts_inside, block-there}
use Rattle.sender.proofs.SendingSums.{sum_below, sum_below-same, sum_below-zero, sum_below-only, sum-sent}
use Rattle.sender.proofs.SendingEach.{each-sent}

-- ---- one block

-- a header without EODC says its payload's length
length-said : (d second third : ℕ) → has eodc d ≡ false → second < 2 ^ 64 → payload_length (header_bytes d second third) ≡ second
unfolding payload_length header_bytes
length-said d second third e h = rw e (second-reads-back d second third h)

-- block k begins at k × size
pub data-place : (file : List ℕ) (size k : ℕ) → 0 < size → length file < 2 ^ 64 → k < block_count (length file) size → place_of (data_block file size k) ≡ k * size
unfolding data_block
data-place file size k z l h = third-reads-back 0 (block_length (length file) size k) (k * size) (omega (arith, starts_inside (length file) size k z h))

-- its header says how far it goes
pub data-size : (file : List ℕ) (size k : ℕ) → length file < 2 ^ 64 → size_of (data_block file size k) ≡ min ((k + 1) * size) (length file) - k * size
unfolding data_block
data-size file size k l = length-said 0 (block_length (length file) size k) (k * size) (unfold has in refl) (omega arith)

-- it has as many bytes
pub data_length : (file : List ℕ) (size k : ℕ) → length (data_block file size k).body ≡ min ((k + 1) * size) (length file) - k * size
unfolding data_block
data_length file size k = simp (length-take, length-drop) (omega arith)

-- what holds of both kinds of endings
pub ending-is : (P : List ℕ → Type 0) (count c : ℕ) → P (header_bytes 72 0 count) → P (header_bytes 8 0 0) → P (ending count c).head
unfolding ending
ending-is P count c h g = go (eqb c 0)
  where
    go : (b : Bool) → P (cond b (header_bytes 72 0 count) (header_bytes 8 0 0))
    go true = h
    go false = g

-- an ending says that no bytes follow
pub ending-size : (count c : ℕ) → size_of (ending count c) ≡ 0
ending-size count c = ending-is (λ h. payload_length h ≡ 0) count c (unfold payload_length header_bytes has in refl) (length-said 8 0 0 (unfold has in refl) (omega arith))

-- ---- payloads that are parts of a file

-- of two lists joined
payloads-append : (file : List ℕ) (a b : List Block) → PayloadsInFile file a → PayloadsInFile file b → PayloadsInFile file (a ++ b)
payloads-append file [] b h k = k
payloads-append file (x ∷ a) b h k = (h.0, h.1, payloads-append file a b h.2 k)

-- each byte of theirs is the file's at its place
pub payload-byte : (file : List ℕ) (xs : List Block) (p v : ℕ) → PayloadsInFile file xs → HasByte p v xs → (p < length file) × (v ≡ get_or file p 0)
payload-byte file [] p v h y = absurd y
payload-byte file (x ∷ xs) p v h (inr y) = payload-byte file xs p v h.2 y
payload-byte file (x ∷ xs) p v h (inl y) = (omega (arith, bytes, y.1, y.2), y.3 ∙ ap (λ bs. get_or bs y.0 0) (sym h.1) ∙ in-file ∙ ap (λ q. get_or file q 0) (sym y.2))
  where
    bytes : length x.body ≡ min (size_of x) (length file - place_of x)
    bytes = ap length (sym h.1) ∙ simp (length-take, length-drop)

    in-file : get_or (take (size_of x) (drop (place_of x) file)) y.0 0 ≡ get_or file (place_of x + y.0) 0
    in-file = get_or-take (size_of x) (drop (place_of x) file) y.0 0 (omega (arith, h.0, y.1)) ∙ get_or-drop (place_of x) file y.0 0

-- a place that one of them holds has its byte
held-byte : (file : List ℕ) (xs : List Block) (p : ℕ) → PayloadsInFile file xs → 0 < payloads_holding p xs → HasByte p (get_or file p 0) xs
unfolding sum
held-byte file [] p h n = absurd (omega arith)
held-byte file (x ∷ xs) p h n = go (stand (place_of x) (place_of x + size_of x) p) (λ m. held-byte file xs p h.2 m)
  where
    go : Where (place_of x) (place_of x + size_of x) p → (0 < payloads_holding p xs → HasByte p (get_or file p 0) xs) → HasByte p (get_or file p 0) (x ∷ xs)
    go (under a e) i = inr (i (omega arith))
    go (past a b e) i = inr (i (omega arith))
    go (within a b e) i = inl (p - place_of x, omega (arith, h.0), omega arith, byte)
      where
        byte : get_or file p 0 ≡ get_or x.body (p - place_of x) 0
        byte =
            let at : place_of x + (p - place_of x) ≡ p = omega arith in
            ap (λ q. get_or file q 0) (sym at) ∙ sym (get_or-drop (place_of x) file (p - place_of x) 0)
            ∙ sym (get_or-take (size_of x) (drop (place_of x) file) (p - place_of x) 0 (omega arith)) ∙ ap (λ bs. get_or bs (p - place_of x) 0) h.1

-- ---- all blocks sent

module _ (file : List ℕ) (count size : ℕ) (some : 0 < count) (z : 0 < size) (l : length file < 2 ^ 64) where
  abbrev sent : List Block
  sent = sent_blocks (sending file count size)

  abbrev blocks : ℕ
  blocks = block_count (length file) size

  -- 1 where the place p is in block k
  abbrev in_block : ℕ → ℕ → ℕ
  in_block p k = in_range (k * size) (min ((k + 1) * size) (length file)) p

  -- each payload is that part of the file
  pub sent-payloads : PayloadsInFile file (sent_blocks (sending file count size))
  sent-payloads =
      each-sent (PayloadsInFile file) tt (payloads-append file) file count size
      (λ k h. (data_length file size k ∙ sym (data-size file size k l), unfold data_block in rw (data-size file size k l, data-place file size k z l h), tt))
      (λ c. (sym (unfold ending in ending-size count c), unfold ending in rw (ending-size count c), tt)) count

  -- no ending holds a place
  holding : (p : ℕ) → payloads_holding p sent ≡ sum_below (in_block p) blocks
  holding p =
      omega (
        arith,
        sum-sent (hit_by p) file count size some,
        sum_below-same (λ k. hit_by p (data_block file size k)) (in_block p) blocks at_block,
        sum_below-zero (λ c. hit_by p (ending count c)) count (λ c h. at-ending c (stand (place_of (ending count c)) (place_of (ending count c) + size_of (ending count c)) p)),
      )
    where
      at_block : (k : ℕ) → k < blocks → hit_by p (data_block file size k) ≡ in_block p k
      at_block k h =
          let end : k * size + block_length (length file) size k ≡ min ((k + 1) * size) (length file) = omega (arith, starts_inside (length file) size k z h) in
          rw (data-place file size k z l h, data-size file size k l, end)

      at-ending : (c : ℕ) → Where (place_of (ending count c)) (place_of (ending count c) + size_of (ending count c)) p → hit_by p (ending count c) ≡ 0
      at-ending c (under a e) = e
      at-ending c (within a b e) = absurd (omega (arith, ending-size count c))
      at-ending c (past a b e) = e

  -- a place of the file is in block p / size alone
  in_one : (p : ℕ) → p < length file → payloads_holding p sent ≡ 1
  in_one p h =
      holding p
      ∙ sum_below-only (in_block p) blocks (p / size) (block-there (length file) size (p / size) z (omega (arith, div-add-mod' p size))) (λ k b d. other k d (dec_lt k (p / size)))
      ∙ in_range-in (p / size * size) (min ((p / size + 1) * size) (length file)) p (omega (arith, div-add-mod' p size)) (omega (arith, div-add-mod' p size, mod-lt p z))
    where
      other : (k : ℕ) → (k ≡ p / size → ⊥) → Dec (k < p / size) → in_block p k ≡ 0
      other k d (yes b) =
          let before : k + 1 ≤ p / size = omega arith in
          in_range-past (k * size) (min ((k + 1) * size) (length file)) p (omega (arith, div-add-mod' p size, mul-le-mul_right size before))
      other k d (no b) =
          let behind : p / size + 1 ≤ k = omega arith in
          in_range-under (k * size) (min ((k + 1) * size) (length file)) p (omega (arith, div-add-mod' p size, mod-lt p z, mul-le-mul_right size behind))

  -- every place of the file is in one block sent, with its byte, and no block names another place
  pub exactly_once : ExactlyOnce file count size
  exactly_once =
      record {
        once = in_one;
        with_byte = λ p h. held-byte file sent p sent-payloads (omega (arith, in_one p h));
        payloads = sent-payloads;
        no_other = λ p h. holding p ∙ sum_below-zero (in_block p) blocks (λ k b. in_range-past (k * size) (min ((k + 1) * size) (length file)) p (omega arith));
        only_its_byte = λ p v y. payload-byte file sent p v sent-payloads y;
      }
