-- What was written up to the endings, however it arrives, gives an equal file.
use Prim.Native.Nat.{ℕ, ◌/◌, ◌≤◌, ◌<◌}
use mathlib.Core.Path.{◌≡◌, refl, sym, ap, ◌∙◌}
use mathlib.Core.List.{List, [], append-nil}
use native.Mathlib.Omega.{arith}
use native.Mathlib.Decide.{dec_lt}
use lib.ListN.{length, replicate, length-replicate}
use Rattle.ledger.specs.Pairs.{Pairs, none}
use Rattle.transfer.specs.Transfer.{sum, World}
use Rattle.transfer.specs.Calls.{Call, after, started_world}
use Rattle.transfer.specs.AfterList.{StartedWith, fresh_start}
use Rattle.transfer.specs.Sending.{non_empty_payloads, pieces_on}
use Rattle.transfer.specs.Arrivals.{Arrives}
use Rattle.transfer.proofs.Demand.{demand-3}
use Rattle.sender.specs.Blocks.{block_count, sending}
use Rattle.sender.specs.Sender.{begin_refusal, begin_of, NextCall}
use Rattle.sender.specs.Calls.{after_calls, written_on, EachLends}
use Rattle.sender.specs.Sends.{EndingsSent, EndsEqual, EqualFile}
use Rattle.sender.proofs.BeginRange.{in-range}
use Rattle.sender.proofs.WellFormedSending.{short-file, well_formed, none_suspected}
use Rattle.sender.proofs.SentFile.{equal-by-payloads}
use Rattle.sender.proofs.SenderSteps.{test-holds}
use Rattle.sender.proofs.SentCalls.{handed-begin, sends}
use Rattle.sender.proofs.GivenByCalls.{can_end}

-- no start accepts more than 4,096 pairs
few-pairs : (w : World) (file : List ℕ) (R : ℕ) (before : Pairs) → StartedWith w file R before → R ≤ 4096
few-pairs w file R before (fresh_start f claimed doubtful e) = by (dec_lt 8192 (length claimed))
  where
    by : Dec (8192 < length claimed) → length claimed / 2 ≤ 4096
    by (yes l) = absurd (omega (arith, e, (demand-3.start.long 0 claimed doubtful l).0))
    by (no n) = omega (arith, n)

module _ (file : List ℕ) (count size : ℕ) (e : begin_refusal count size ≡ 0) (ks : List NextCall) (lends : EachLends file ks)
    (ended : EndingsSent (after_calls (begin_of (length file) count size) ks) file)
    (w : World) (start : List ℕ) (R : ℕ) (started : StartedWith w start R none) (same : length start ≡ length file) (enough : block_count (length file) size ≤ R)
    (rs : List Call) (arrives : (c : ℕ) → pieces_on c rs ≡ written_on c (begin_of (length file) count size) ks) where
  few : block_count (length file) size ≤ 4096
  few = omega (arith, enough, few-pairs w start R none started)

  arrived : Arrives w start (sending file count size) rs
  arrived =
      let r = in-range count size e in
      demand-3.every_arrival.arrives w start R none started (sending file count size)
      (rw same (well_formed file count size r.0.0 r.0.1 r.1.0 r.1.1 few R enough))
      rs
      (λ c. arrives c ∙ sends.all_sent file count size e ks lends ended c)

  pub ends-equal : EndsEqual file count size w start rs
  ends-equal =
      let r = in-range count size e in
      let long : length (after w rs).lent.file ≡ length file = (demand-3.every_list.after_list w start R none started rs).file_length ∙ same in
      record {
        result_is = (arrived.shows_result rs [] (sym (append-nil rs)) refl).1 (unfold sum in ap non_empty_payloads (none_suspected file count size));
        file_is = equal-by-payloads file (after w rs).lent.file count size r.0.0 r.1.0 (short-file (length file) size r.1.0 r.1.1 few) long arrived.payloads_in_file;
        arrives = arrived;
      }

-- a ledger of 8,192 entries has 4,096 pairs
started-empty : (start ledger : List ℕ) → length ledger ≡ 8192 → StartedWith (started_world start ledger ledger) start 4096 none
started-empty start ledger e = rw e at (demand-3.every_list.begins start ledger ledger (omega (arith, e)) (omega (arith, e)) refl)

-- some list sends all endings, and what it wrote has an arrival
arrival : (file : List ℕ) (count size : ℕ) → begin_refusal count size ≡ 0
    → (ks : List NextCall) × (rs : List Call) × EachLends file ks × EndingsSent (after_calls (begin_of (length file) count size) ks) file
    × ((c : ℕ) → pieces_on c rs ≡ written_on c (begin_of (length file) count size) ks)
arrival file count size e =
    let h = handed-begin (length file) count size e in
    let k = can_end.ends (begin_of (length file) count size) h.numbers (test-holds (length file) count size _ h) file (sym h.len_is) in
    let a = demand-3.every_arrival.has_arrival (sending file count size) in
    (k.0, a.0, k.1, k.2, λ c. a.1 c ∙ sym (sends.all_sent file count size e k.0 k.1 k.2 c))

pub equal_file : EqualFile
equal_file =
    record {
      ends = ends-equal;
      room = λ file size few start. (started_world start (replicate 8192 0) (replicate 8192 0), 4096, started-empty start (replicate 8192 0) (length-replicate {A = ℕ} 8192 0), few);
      arrival = arrival;
    }
