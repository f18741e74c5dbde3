-- The header of a block by its three numbers, and that the header writer accepts these.
use Prim.Native.Nat.{ℕ, ◌+◌, ◌*◌, ◌≤◌, ◌<◌}
use mathlib.Core.Path.{◌≡◌, refl}
use mathlib.Core.List.{List}
use native.Mathlib.Omega.{arith}
use lib.ListN.{length, take, drop}
use borrow.Author.Tests.{le-ltb, eq-eqb, ne_eqb}
use Rattle.answers.specs.Written.{first_refusal}
use Rattle.eblock.specs.Descriptor.{has, fault_of}
use Rattle.eblock.specs.Header.{header_bytes, refusal_of, second_field}
use Rattle.transfer.specs.Block.{Block}
use Rattle.sender.specs.Blocks.{block_count, block_start, block_length, data_block, ending, blocks_on, block_on}
use Rattle.sender.proofs.ChannelRun as run

-- these three numbers are those of a block, with the bytes of the file that they name
abbrev pub Outlines : List ℕ → ℕ → ℕ → ℕ → Block → Type 0
Outlines file d len third x = (header_bytes d (second_field d len) third ≡ x.head) × (take len (drop third file) ≡ x.body)

-- ---- a block with bytes

pub data_is : (file : List ℕ) (count size c i d len third : ℕ) → i < blocks_on (block_count (length file) size) count c
    → d ≡ 0 → len ≡ block_length (length file) size (i * count + c) → third ≡ block_start size (i * count + c) → Outlines file d len third (block_on file count size c i)
unfolding data_block second_field has
data_is file count size c i d len third h e₁ e₂ e₃ = rw (e₁, e₂, e₃, run.block-is file count size c i h) (refl, refl)

pub data-accepted : (d third : ℕ) → d ≡ 0 → refusal_of d third ≡ 0
unfolding refusal_of first_refusal has fault_of
data-accepted d third e = rw e refl

-- ---- an ending

pub first-ending : (file : List ℕ) (count size c i : ℕ) → blocks_on (block_count (length file) size) count c ≤ i → c ≡ 0 → Outlines file 72 0 count (block_on file count size c i)
unfolding ending second_field has
first-ending file count size c i h e = rw (run.ending-is file count size c i h, eq-eqb c 0 e) (refl, refl)

pub other-ending : (file : List ℕ) (count size c i : ℕ) → blocks_on (block_count (length file) size) count c ≤ i → (c ≡ 0 → ⊥) → Outlines file 8 0 0 (block_on file count size c i)
unfolding ending second_field has
other-ending file count size c i h n = rw (run.ending-is file count size c i h, ne_eqb c 0 n) (refl, refl)

pub count-accepted : (count : ℕ) → 0 < count → count ≤ 64 → refusal_of 72 count ≡ 0
unfolding refusal_of first_refusal has fault_of
count-accepted count p m = simp (ne_eqb count 0 (λ e. omega (arith, e)), le-ltb 64 count m)

pub eight-accepted : refusal_of 8 0 ≡ 0
unfolding refusal_of first_refusal has fault_of
eight-accepted = refl
