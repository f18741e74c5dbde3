-- No sending is left out: calls that are taken whole and end with RESULT or SUSPECT are an arrival of a well-formed sending.
use Prim.Native.Nat.{ℕ, ◌+◌, ◌≤◌}
use mathlib.Core.Path.{◌≡◌, sym, ◌∙◌}
use mathlib.Core.Logic.{◌⊎◌, ⊎_elim}
use mathlib.Core.List.{List}
use lib.ListN.{length}
use Rattle.ledger.specs.Pairs.{Pairs, size}
use Rattle.transfer.specs.Transfer.{World, result, suspect, verdict_of}
use Rattle.transfer.specs.Calls.{Call, after}
use Rattle.transfer.specs.AfterList.{StartedWith, tally_of, Complete}
use Rattle.transfer.specs.Sending.{SentChannel, sent_blocks, non_empty_payloads, WellFormed, Arrival}
use Rattle.transfer.specs.Arrivals.{AllTaken}
use Rattle.transfer.proofs.TallyFromStart.{along}
use Rattle.transfer.proofs.AfterList.{every_list}
use Rattle.transfer.proofs.ArrivalTaken.{pieces-taken}
use Rattle.transfer.proofs.CompleteSending.{lived, lived-bytes, lived-well}

pub only_well_formed : (w : World) (file : List ℕ) (R : ℕ) (before : Pairs) → StartedWith w file R before → (ks : List Call) → AllTaken w ks
    → (verdict_of (after w ks) ≡ result) ⊎ (verdict_of (after w ks) ≡ suspect)
    → (s : List SentChannel) × Arrival s ks × ((r : ℕ) → non_empty_payloads (sent_blocks s) + size before ≤ r → WellFormed (length file) r before s)
only_well_formed w file R before b ks whole v =
    let a = along w file R before b ks in
    let t = tally_of (length file) R before ks in
    let all = every_list.after_list w file R before b ks in
    let c : (t.fault ≡ 0) × Complete t =
    ⊎_elim (λ (e : verdict_of (after w ks) ≡ result). let q = all.result_is.0 e in (q.0, q.1)) (λ (e : verdict_of (after w ks) ≡ suspect). let q = all.suspect_is.0 e in (q.0, q.1)) v in (
      lived (length file) R before a.ruled t a.kept c.0 c.1,
      (λ n. pieces-taken w file R before b ks whole n ∙ sym (lived-bytes (length file) R before a.ruled t a.kept c.0 c.1 n)),
      lived-well (length file) R before a.ruled t a.kept c.0 c.1,
    )
