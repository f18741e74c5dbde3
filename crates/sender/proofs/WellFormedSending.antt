-- The sending of a file is well-formed, given at most 4,096 blocks with bytes and as many pairs.
use Prim.Native.Nat.{ℕ, zero, suc, ◌+◌, ◌*◌, ◌^◌, ◌≤◌, ◌<◌}
use mathlib.Core.Path.{◌≡◌, refl, sym, ap, ◌∙◌}
use mathlib.Core.Bool.{Bool, true, false, cond}
use mathlib.Core.List.{List, [], ◌∷◌, ◌++◌}
use native.Mathlib.Omega.{arith}
use native.Mathlib.Nat.{mul-le-mul_right}
use native.Mathlib.Decide.{dec_lt}
use borrow.Author.Tests.{ne_eqb}
use lib.Dec.{eqb}
use lib.ListN.{length, length-append}
use Rattle.ledger.specs.Pairs.{none, size as pair_count, contains}
use Rattle.eblock.specs.Descriptor.{has, fault_of}
use Rattle.eblock.specs.Header.{descriptor_of, third_of, header_bytes}
use Rattle.eblock.proofs.HeaderFields.{length-bytes_of, third-reads-back}
use Rattle.transfer.specs.Transfer.{sum}
use Rattle.transfer.specs.Header.{is_eodc, ends_channel, is_doubtful}
use Rattle.transfer.specs.Block.{Block, block, size_of, counts_in, doubtful_in}
use Rattle.transfer.specs.Sending.{SentChannel, WellFormedBlock, WellFormedBlocks, WellFormedChannel, WellFormedChannels, sent_blocks, times_sent_on, payloads_holding, non_empty_payloads, WellFormed}
use Rattle.transfer.proofs.BlockDoubts.{doubtful-append}
use Rattle.transfer.proofs.BlockCounts.{sum-counts, exactly-one}
use Rattle.transfer.proofs.ArrivalWhole.{sent-append}
use Rattle.transfer.proofs.CompleteSending.{ends_last}
use Rattle.transfer.proofs.BlockCut.{Done, done-append}
use Rattle.sender.specs.Blocks.{block_count, block_length, data_block, ending, data_blocks_on, channel_blocks, channels_below, sending}
use Rattle.sender.proofs.BlockNumbers.{starts_inside, block-there}
use Rattle.sender.proofs.SendingSums.{sum_below, sum_below-same, sum_below-zero, sum_below-at, sum_below-most, sum-channels, sum-sent}
use Rattle.sender.proofs.SendingEach.{each_on, each-channel, each-sent}
use Rattle.sender.proofs.SentPlaces.{data-place, data-size, data_length, ending-is, ending-size, exactly_once}

-- at most 4,096 blocks of at most 65,536 bytes: a header can say every place
pub short-file : (len size : ℕ) → 0 < size → size ≤ 65536 → block_count len size ≤ 4096 → len < 2 ^ 64
short-file len size z s b = go (dec_lt (block_count len size * size) len)
  where
    go : Dec (block_count len size * size < len) → len < 2 ^ 64
    go (yes h) = absurd (omega (arith, block-there len size (block_count len size) z h))
    go (no h) = omega (arith, h, mul-le-mul_right size b)

-- ---- one block

-- block k is as it should be
data-well : (file : List ℕ) (size k : ℕ) → 0 < size → length file < 2 ^ 64 → k < block_count (length file) size → WellFormedBlock (length file) (data_block file size k)
data-well file size k z l h =
    record {
      seventeen = unfold data_block in length-bytes_of 0 (block_length (length file) size k) (k * size);
      accepted = unfold data_block header_bytes fault_of has in refl;
      whole = data_length file size k ∙ sym (data-size file size k l);
      inside = λ m. omega (arith, data-place file size k z l h, data-size file size k l, starts_inside (length file) size k z h);
    }

-- and does not end its channel
data-done : (file : List ℕ) (size k : ℕ) → 0 < size → length file < 2 ^ 64 → k < block_count (length file) size → Done (data_block file size k ∷ [])
data-done file size k z l h = let w = data-well file size k z l h in (w.seventeen, w.whole, unfold data_block header_bytes has in refl, tt)

-- an ending is as it should be
ending-well : (F count c : ℕ) → WellFormedBlock F (ending count c)
ending-well F count c =
    record {
      seventeen = ending-is (λ h. length h ≡ 17) count c (length-bytes_of 72 0 count) (length-bytes_of 8 0 0);
      accepted = ending-is (λ h. fault_of (descriptor_of h) ≡ 0) count c (unfold header_bytes fault_of has in refl) (unfold header_bytes fault_of has in refl);
      whole = unfold ending in sym (ending-size count c);
      inside = λ m. absurd (omega (arith, ending-size count c));
    }

-- ---- one channel

-- on channel c
channel-well : (file : List ℕ) (count size c : ℕ) → 0 < size → length file < 2 ^ 64 → c < 64 → WellFormedChannel (length file) (record { number = c; blocks = channel_blocks file count size c })
channel-well file count size c z l h =
    record {
      channel = h;
      each =
          each-channel (WellFormedBlocks (length file)) tt (sent-append (length file)) file count size (λ k m. (data-well file size k z l m, tt))
          (λ d. (ending-well (length file) count d, tt)) c;
      ends =
          unfold channel_blocks in
          ends_last (data_blocks_on file count size c (block_count (length file) size)) (ending count c)
          (each_on Done tt done-append file count size c (block_count (length file) size) (λ k m. data-done file size k z l m))
          (ending-is (λ h. ends_channel h ≡ true) count c (unfold header_bytes has in refl) (unfold header_bytes has in refl));
    }

-- ---- all channels

-- one channel more
channels-behind : (F : ℕ) (s : List SentChannel) (x : SentChannel) → WellFormedChannels F s → WellFormedChannel F x → WellFormedChannels F (s ++ (x ∷ []))
channels-behind F [] x h k = (k, tt)
channels-behind F (y ∷ s) x h k = (h.0, channels-behind F s x h.1 k)

-- each is as it should be
channels-well : (file : List ℕ) (count size n : ℕ) → 0 < size → length file < 2 ^ 64 → n ≤ 64 → WellFormedChannels (length file) (channels_below file count size n)
unfolding channels_below
channels-well file count size zero z l h = tt
channels-well file count size (suc c) z l h =
    channels-behind (length file) (channels_below file count size c) (record { number = c; blocks = channel_blocks file count size c }) (channels-well file count size c z l (omega arith))
    (channel-well file count size c z l (omega arith))

-- there are n below n
channels-number : (file : List ℕ) (count size n : ℕ) → length (channels_below file count size n) ≡ n
unfolding channels_below
channels-number file count size zero = refl
channels-number file count size (suc c) =
    omega (arith, length-append (channels_below file count size c) (record { number = c; blocks = channel_blocks file count size c } ∷ []), channels-number file count size c)

-- no channel twice
channels-once : (file : List ℕ) (count size n c : ℕ) → times_sent_on c (channels_below file count size n) ≤ 1
channels-once file count size n c = go (dec_lt c n)
  where
    here : times_sent_on c (channels_below file count size n) ≡ sum_below (λ d. cond (eqb d c) 1 0) n
    here = sum-channels (λ (x : SentChannel). cond (eqb x.number c) 1 0) file count size n

    go : Dec (c < n) → times_sent_on c (channels_below file count size n) ≤ 1
    go (yes h) = omega (arith, here, sum_below-at 1 c n h)
    go (no h) = omega (arith, here, sum_below-zero (λ d. cond (eqb d c) 1 0) n (λ d l. rw (ne_eqb d c (λ e. omega arith))))

-- ---- counts

-- a number of each count, added up: channel 0's ending alone has one
counts-added : (g : ℕ → ℕ) (file : List ℕ) (count size : ℕ) → 0 < count → count ≤ 64 → sum g (counts_in (sent_blocks (sending file count size))) ≡ g count
unfolding ending
counts-added g file count size h m =
    sum-counts g (sent_blocks (sending file count size)) ∙ omega (
      arith,
      sum-sent counted file count size h,
      sum_below-zero (λ k. counted (data_block file size k)) (block_count (length file) size) (λ k l. plain k),
      sum_below-same (λ c. counted (ending count c)) (λ c. cond (eqb c 0) (g count) 0) count (λ c l. at (eqb c 0)),
      sum_below-at (g count) 0 count h,
    )
  where
    counted : Block → ℕ
    counted x = cond (is_eodc x.head) (g (third_of x.head)) 0

    plain : (k : ℕ) → counted (data_block file size k) ≡ 0
    plain k = unfold data_block header_bytes has in refl

    at : (b : Bool) → counted (block (cond b (header_bytes 72 0 count) (header_bytes 8 0 0)) []) ≡ cond b (g count) 0
    at true = unfold header_bytes has in ap g (third-reads-back 72 0 count (omega arith))
    at false = unfold header_bytes has in refl

-- one count in all, that of the channels
one_count : (file : List ℕ) (count size : ℕ) → 0 < count → count ≤ 64 → counts_in (sent_blocks (sending file count size)) ≡ count ∷ []
one_count file count size h m = exactly-one count (counts_in (sent_blocks (sending file count size))) (λ g. counts-added g file count size h m)

-- ---- the sending

-- at most one for each block with bytes
payloads-most : (file : List ℕ) (count size : ℕ) → 0 < count → non_empty_payloads (sent_blocks (sending file count size)) ≤ block_count (length file) size
payloads-most file count size h =
    omega (
      arith,
      sum-sent non_empty file count size h,
      sum_below-most (λ k. non_empty (data_block file size k)) (block_count (length file) size) (λ k. most (eqb (size_of (data_block file size k)) 0)),
      sum_below-zero (λ c. non_empty (ending count c)) count (λ c l. rw (ending-size count c)),
    )
  where
    non_empty : Block → ℕ
    non_empty x = cond (eqb (size_of x) 0) 0 1

    most : (b : Bool) → cond b 0 1 ≤ 1
    most true = omega arith
    most false = omega arith

-- for a file of that length and ledgers of R pairs that hold nothing before
pub well_formed : (file : List ℕ) (count size : ℕ) → 0 < count → count ≤ 64 → 0 < size → size ≤ 65536 → block_count (length file) size ≤ 4096
    → (R : ℕ) → block_count (length file) size ≤ R → WellFormed (length file) R none (sending file count size)
unfolding contains pair_count
well_formed file count size h m z s b R r =
    record {
      some = omega (arith, channels-number file count size count);
      few = omega (arith, channels-number file count size count);
      once = channels-once file count size count;
      each = channels-well file count size count z short m;
      one_count = one_count file count size h m ∙ ap {B = List ℕ} (λ n. n ∷ []) (sym (channels-number file count size count));
      apart = λ p. apart p (dec_lt p (length file));
      room = omega (arith, payloads-most file count size h);
    }
  where
    short : length file < 2 ^ 64
    short = short-file (length file) size z s b

    apart : (p : ℕ) → Dec (p < length file) → payloads_holding p (sent_blocks (sending file count size)) + contains p none ≤ 1
    apart p (yes l) = omega (arith, (exactly_once file count size h z short).once p l)
    apart p (no l) = omega (arith, (exactly_once file count size h z short).no_other p (omega arith))

-- ---- bit 32

-- a block without it
not-doubtful : (x : Block) → is_doubtful x.head ≡ false → doubtful_in (x ∷ []) ≡ []
unfolding doubtful_in
not-doubtful x e = rw e

pub none_suspected : (file : List ℕ) (count size : ℕ) → doubtful_in (sent_blocks (sending file count size)) ≡ []
unfolding doubtful_in
none_suspected file count size =
    each-sent (λ xs. doubtful_in xs ≡ []) refl (λ a b p q. doubtful-append a b ∙ rw (p, q)) file count size
    (λ k h. not-doubtful (data_block file size k) (unfold data_block header_bytes has in refl))
    (λ c. not-doubtful (ending count c) (ending-is (λ h. is_doubtful h ≡ false) count c (unfold header_bytes has in refl) (unfold header_bytes has in refl))) count
