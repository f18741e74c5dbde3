-- The screen line's example is a well-formed sending, and its three calls are an arrival of it; with bit 32 it is well-formed too.
use Prim.Native.Nat.{ℕ, zero, suc, ◌+◌, ◌≤◌, ◌<◌}
use mathlib.Core.Path.{◌≡◌, refl}
use mathlib.Core.Bool.{false}
use native.Mathlib.Omega.{arith}
use native.Mathlib.Decide.{ℕ_discrete}
use borrow.Author.Tests.{eq-eqb, ne_eqb}
use lib.ListN.{replicate}
use Rattle.octets.specs.Digits.{from_little_endian, from_big_endian, to_little_endian, to_big_endian}
use Rattle.ledger.specs.Pairs.{none, size, in_range, contains}
use Rattle.ledger.proofs.PairsPlaces.{Where, under, within, past, stand}
use Rattle.eblock.specs.Descriptor.{has, eodc, end_of_data, fault_of}
use Rattle.eblock.specs.Header.{second_of, third_of, header_bytes}
use Rattle.transfer.specs.Transfer.{sum}
use Rattle.transfer.specs.Header.{payload_length}
use Rattle.transfer.specs.Calls.{started_world}
use Rattle.transfer.specs.Block.{block_bytes, counts_in, doubtful_in}
use Rattle.transfer.specs.AfterList.{StartedWith}
use Rattle.transfer.specs.Sending.{sent_blocks, times_sent_on, payloads_holding, non_empty_payloads, WellFormed, sent_on, pieces_on, Arrival}
use Rattle.transfer.specs.Example.{sending_with, example_sending, suspected_sending, calls}
use Rattle.transfer.proofs.Start.{every-start-begins}

-- with a descriptor that is accepted, gives no count and ends no channel
module _ (d : ℕ) (f : fault_of d ≡ 0) (e : has eodc d ≡ false) (l : has end_of_data d ≡ false) where
  once : (c : ℕ) → times_sent_on c (sending_with d) ≤ 1
  unfolding sum
  once c = go (ℕ_discrete 0 c) (ℕ_discrete 1 c)
    where
      go : Dec (0 ≡ c) → Dec (1 ≡ c) → times_sent_on c (sending_with d) ≤ 1
      go (yes a) (yes b) = absurd (omega (arith, a, b))
      go (yes a) (no b) = rw (eq-eqb 0 c a, ne_eqb 1 c b) (omega arith)
      go (no a) (yes b) = rw (ne_eqb 0 c a, eq-eqb 1 c b) (omega arith)
      go (no a) (no b) = rw (ne_eqb 0 c a, ne_eqb 1 c b) (omega arith)

  apart : (p : ℕ) → payloads_holding p (sent_blocks (sending_with d)) + contains p none ≤ 1
  unfolding sum sent_blocks contains payload_length second_of third_of header_bytes from_big_endian from_little_endian to_big_endian to_little_endian
  apart p = rw e (unfold has in go (stand 0 4 p) (stand 2 2 p) (stand 4 8 p))
    where
      go : Where 0 4 p → Where 2 2 p → Where 4 8 p → in_range 0 4 p + (in_range 2 2 p + (in_range 4 8 p + 0)) + 0 ≤ 1
      go a (within x y e) c = absurd (omega arith)
      go (under a b) (under x e) c = absurd (omega arith)
      go (under a b) (past x y e) c = absurd (omega arith)
      go (within a b d) (under x e) (within x' y' e') = absurd (omega arith)
      go (within a b d) (under x e) (under x' e') = omega arith
      go (within a b d) (under x e) (past x' y' e') = omega arith
      go (within a b d) (past x y e) (within x' y' e') = absurd (omega arith)
      go (within a b d) (past x y e) (under x' e') = omega arith
      go (within a b d) (past x y e) (past x' y' e') = omega arith
      go (past a b d) (under x e) (within x' y' e') = omega arith
      go (past a b d) (under x e) (under x' e') = omega arith
      go (past a b d) (under x e) (past x' y' e') = omega arith
      go (past a b d) (past x y e) (within x' y' e') = omega arith
      go (past a b d) (past x y e) (under x' e') = omega arith
      go (past a b d) (past x y e) (past x' y' e') = omega arith

  well-formed-with : WellFormed 8 2 none (sending_with d)
  unfolding sum sent_blocks counts_in size payload_length second_of third_of header_bytes from_big_endian from_little_endian to_big_endian to_little_endian
  well-formed-with =
      record {
        some = omega arith;
        few = omega arith;
        once = once;
        each = (
          record {
            channel = omega arith;
            each = (
              record { seventeen = refl; accepted = f; whole = rw e; inside = λ h. rw e (omega arith) },
              (record { seventeen = refl; accepted = unfold fault_of has in refl; whole = unfold has in refl; inside = λ h. unfold has in omega arith }, tt),
            );
            ends = (l, unfold has in refl);
          },
          (record { channel = omega arith; each = (record { seventeen = refl; accepted = unfold fault_of has in refl; whole = unfold has in refl; inside = λ h. unfold has in omega arith }, tt); ends = unfold has in refl }, tt),
        );
        one_count = rw e (unfold has in refl);
        apart = apart;
        room = rw e (unfold has in omega arith);
      }

pub well_formed : WellFormed 8 2 none example_sending
well_formed = well-formed-with 0 (unfold fault_of has in refl) (unfold has in refl) (unfold has in refl)

pub suspected_well_formed : WellFormed 8 2 none suspected_sending
suspected_well_formed = well-formed-with 32 (unfold fault_of has in refl) (unfold has in refl) (unfold has in refl)

pub none_suspected : non_empty_payloads (doubtful_in (sent_blocks example_sending)) ≡ 0
unfolding sum sent_blocks doubtful_in payload_length second_of third_of header_bytes from_big_endian from_little_endian to_big_endian to_little_endian has
none_suspected = refl

pub one_suspected : 0 < non_empty_payloads (doubtful_in (sent_blocks suspected_sending))
unfolding sum sent_blocks doubtful_in payload_length second_of third_of header_bytes from_big_endian from_little_endian to_big_endian to_little_endian has
one_suspected = omega arith

-- ---- its calls

pub arrival : Arrival example_sending calls
unfolding sent_on pieces_on block_bytes header_bytes to_big_endian to_little_endian
arrival zero = refl
arrival (suc zero) = refl
arrival (suc (suc c)) = rw (ne_eqb 0 (suc (suc c)) (λ e. omega arith), ne_eqb 1 (suc (suc c)) (λ e. omega arith))

pub begins : StartedWith (started_world (replicate 8 0) (replicate 4 7) (replicate 4 7)) (replicate 8 0) 2 none
begins = every-start-begins (replicate 8 0) (replicate 4 7) (replicate 4 7) refl (omega arith) refl
