-- The blocks and the endings of an accepted beginning are those of the document.
use Prim.Native.Nat.{ℕ, ◌+◌, ◌*◌, ◌/◌, ◌%◌, ◌<◌}
use mathlib.Core.Path.{◌≡◌, refl, sym, ap, ◌∙◌}
use mathlib.Core.List.{List}
use native.Mathlib.Omega.{arith}
use native.Mathlib.Nat.{mod-lt, div-add-mod'}
use lib.ListN.{length, get_or}
use borrow.Author.Tests.{ne_eqb}
use Rattle.eblock.specs.Header.{header_bytes}
use Rattle.transfer.specs.Block.{Block}
use Rattle.sender.specs.Blocks.{block_count, data_block, ending, channel_blocks, blocks_on}
use Rattle.sender.specs.Sender.{begin_refusal}
use Rattle.sender.specs.BlockRows.{BlocksAre, EndingsAre}
use Rattle.sender.proofs.BlockNumbers.{starts_inside, block-there}
use Rattle.sender.proofs.BeginRange.{in-range}
use Rattle.sender.proofs.ChannelShares.{number-mod, number-div, share-below, share-has}
use Rattle.sender.proofs.ChannelRun.{block-is, ending-is, run_length, run_at}
use Rattle.sender.proofs.SentPlaces.{data_length, ending-size}

-- block k is given on channel k mod the count, after k / count others
module _ (file : List ℕ) (count size k : ℕ) (z : 0 < count) (h : k < block_count (length file) size) where
  parts : k / count * count + k % count ≡ k
  parts = div-add-mod' k count

  pub in-share : k / count < blocks_on (block_count (length file) size) count (k % count)
  in-share = share-has _ count _ _ (mod-lt k z) (omega (arith, parts))

  pub goes_on : (d : Block) → get_or (channel_blocks file count size (k % count)) (k / count) d ≡ data_block file size k
  goes_on d = run_at file count size (k % count) (mod-lt k z) (k / count) d (omega (arith, in-share)) ∙ block-is file count size (k % count) (k / count) in-share ∙ ap (data_block file size) parts

pub blocks_are : (file : List ℕ) (count size : ℕ) → begin_refusal count size ≡ 0 → BlocksAre file count size
unfolding data_block header_bytes
blocks_are file count size e =
    let r = in-range count size e in
    record {
      holds = λ k. record { head_is = refl; body_is = refl };
      whole = data_length file size;
      never_empty = λ k h. omega (arith, data_length file size k, starts_inside (length file) size k (omega (arith, r)) h, r);
      as_many = λ k. (starts_inside (length file) size k (omega (arith, r)), block-there (length file) size k (omega (arith, r)));
      goes_on = λ k d h. (mod-lt k (omega (arith, r)), in-share file count size k (omega (arith, r)) h, goes_on file count size k (omega (arith, r)) h d);
      no_other = λ c i d h k.
          (i * count + c, share-below _ count c i h k, number-mod i count c h, number-div i count c h, run_at file count size c h i d (omega (arith, k)) ∙ block-is file count size c i k);
      in_order = λ c i d h k. sym (run_at file count size c h i d k);
    }

pub endings_are : (file : List ℕ) (count size : ℕ) → EndingsAre file count size
unfolding ending header_bytes
endings_are file count size =
    record {
      after_last = λ c d h.
          (run_length file count size c h, run_at file count size c h _ d (omega arith) ∙ ending-is file count size c _ (omega arith));
      on_first = record { head_is = refl; body_is = refl };
      on_others = λ c n. record { head_is = rw (ne_eqb c 0 n); body_is = refl };
      zero_length = λ c. (ending-size count c, refl);
    }
