-- The beginning: an accepted start leaves the world of the empty tally, for which the invariant holds.
use Prim.Native.Nat.{ℕ, zero, suc, ◌*◌, ◌%◌, ◌≤◌, zero-le}
use mathlib.Core.Path.{◌≡◌, refl, ap, ◌∙◌}
use mathlib.Core.List.{List, []}
use native.Mathlib.Omega.{arith}
use native.Mathlib.Decide.{dec_le, ℕ_discrete}
use lib.ListN.{length, replicate}
use Rattle.ledger.specs.Pairs.{Pairs, none, size, contains, ObeyFrom, ends_at_most}
use Rattle.ledger.specs.Ledger.{entry_limit, capacity, laid_out}
use Rattle.transfer.specs.Channel.{channel_count, state_code, held_length, next_place, bytes_left, held_bytes, encode_state}
use Rattle.transfer.specs.Transfer.{sum, World, world, fresh, start_refusal}
use Rattle.transfer.specs.Fit.{pair_limit}
use Rattle.transfer.specs.Calls.{started_world}
use Rattle.transfer.specs.Block.{cut_by, counts_in, claims_in, doubtful_in, with_payloads}
use Rattle.transfer.specs.Tally.{intact, accepted, blocks_of, empty}
use Rattle.transfer.specs.AfterList.{StartedWith, fresh_start}
use Rattle.transfer.specs.StateFrom.{state_from}
use Rattle.transfer.proofs.Start.{start}
use Rattle.transfer.proofs.ChannelBytes.{no_byte}
use Rattle.transfer.proofs.TallyStreams.{AllProper}
use Rattle.transfer.proofs.TallyTransfer.{row_of, heads_of, transfer_of, world_of}
use Rattle.transfer.proofs.TallyInvariant.{unknown, no_fault, AllSound, Invariant}

proper-empty : (n : ℕ) → AllProper (replicate n (intact []))
proper-empty zero = tt
proper-empty (suc n) = (no_byte refl, proper-empty n)

pub intact-empty : (n : ℕ) → AllSound (replicate n (intact []))
intact-empty zero = tt
intact-empty (suc n) = (refl, intact-empty n)

pub invariant-empty : (F R : ℕ) → Invariant F R none empty
unfolding empty blocks_of accepted cut_by claims_in doubtful_in counts_in sum size ends_at_most contains
invariant-empty F R =
    record {
      number = refl;
      proper = proper-empty channel_count;
      clean = λ z. intact-empty channel_count;
      apart = λ q. omega arith;
      ends = refl;
      room = zero-le;
      doubt_room = zero-le;
      count = unknown refl;
      fault = no_fault refl refl;
      headers = refl;
    }

laid_out-none : (r : ℕ) → replicate (2 * r) 0 ≡ laid_out r none
unfolding laid_out
laid_out-none zero = refl
laid_out-none (suc r) = let e : 2 * suc r ≡ suc (suc (2 * r)) = omega arith in rw (e, laid_out-none r)

world-empty : (file : List ℕ) (R : ℕ) → world (fresh (length file) R) file (laid_out R none) (laid_out R none) ≡ world_of (length file) R none file empty
unfolding world_of transfer_of fresh empty blocks_of accepted cut_by claims_in doubtful_in counts_in with_payloads heads_of row_of state_from encode_state state_code held_length held_bytes next_place bytes_left
world-empty file R = refl

pub begun-is : (file claimed doubtful : List ℕ) → start_refusal claimed doubtful ≡ 0
    → (capacity claimed ≤ pair_limit) × (started_world file claimed doubtful ≡ world_of (length file) (capacity claimed) none file empty)
unfolding started_world
begun-is file claimed doubtful h = go (ℕ_discrete (length claimed % 2) 0) (dec_le (length claimed) entry_limit) (ℕ_discrete (length doubtful) (length claimed))
  where
    go : Dec (length claimed % 2 ≡ 0) → Dec (length claimed ≤ entry_limit) → Dec (length doubtful ≡ length claimed)
        → (capacity claimed ≤ pair_limit) × (started_world file claimed doubtful ≡ world_of (length file) (capacity claimed) none file empty)
    go (no e) l g = absurd (omega (arith, h, (start.odd (length file) claimed doubtful e).0))
    go (yes e) (no l) g = absurd (omega (arith, h, (start.long (length file) claimed doubtful (omega arith)).0))
    go (yes e) (yes l) (no g) = absurd (omega (arith, h, (start.unequal (length file) claimed doubtful g).0))
    go (yes e) (yes l) (yes g) =
        let a = start.accepted (length file) claimed doubtful e l g in
        let n : length claimed ≡ 2 * capacity claimed = omega (arith, e) in
        let zeros : replicate (length claimed) 0 ≡ laid_out (capacity claimed) none = ap (λ n. replicate n 0) n ∙ laid_out-none (capacity claimed) in (
          omega (arith, l),
          rw (a.1, a.2, a.3, g, zeros) (world-empty file (capacity claimed)),
        )

-- whatever the ledgers held before
pub begins : (w : World) (file : List ℕ) (R : ℕ) (before : Pairs) → StartedWith w file R before
    → ObeyFrom 0 before × (R ≤ pair_limit) × Invariant (length file) R before empty × (w ≡ world_of (length file) R before file empty)
begins w file R before (fresh_start f claimed doubtful e) = (tt, (begun-is f claimed doubtful e).0, invariant-empty (length f) (capacity claimed), (begun-is f claimed doubtful e).1)
