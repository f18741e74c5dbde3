-- A range that a header asks for.
use Rattle.std.specs.Prelude.{ℕ, ◌-◌, Bool, cond, ltb}
use Rattle.ledger.specs.Ledger.{pairs_of}
use Rattle.transfer.specs.Transfer.{World}
use Rattle.transfer.specs.Header.{claim_fault}
use Rattle.transfer.specs.Receive.{Outcome, stop_with_fault, expect_payload, claim_range}

-- its fault, or it is claimed, in both ledgers where it is doubtful, and its payload opened
unfoldable pub claim_or_fault : World → ℕ → ℕ → ℕ → Bool → Bool → Outcome World
claim_or_fault w c s e doubt last =
    let k = claim_fault w.t.pairs (pairs_of w.lent.claimed) (pairs_of w.lent.doubtful) s e doubt in
    cond (ltb 0 k) (stop_with_fault w c k) (expect_payload (claim_range w s e doubt) c s (e - s) last)
