-- A range that a header asks for, in the world's terms: its fault, or the payload opened in the ledgers that claiming it left.
use Prim.Native.Nat.{ℕ, ◌-◌, ◌<◌}
use mathlib.Core.Path.{◌≡◌, sym, ◌∙◌}
use mathlib.Core.Bool.{Bool}
use mathlib.Core.List.{List}
use borrow.Author.Tests.{lt-ltb}
use Rattle.transfer.specs.declared.state.Transfer.{Transfer}
use Rattle.transfer.specs.Transfer.{world}
use Rattle.transfer.specs.Receive.{stop_with_fault, expect_payload, claim_range}
use Rattle.headers.specs.ClaimRange.{ClaimResult}
use Rattle.headers.specs.ClaimOrFault.{claim_or_fault}

-- claiming the range answered k, and of the ledgers l and d it left m and n
module _ (t : Transfer) (file l d : List ℕ) (c s e : ℕ) (doubt last : Bool) (k : ℕ) (m n : List ℕ) (r : ClaimResult t.pairs s e doubt l d k m n) where
  pub claims-fault : 0 < k → stop_with_fault (world t file m n) c k ≡ claim_or_fault (world t file l d) c s e doubt last
  unfolding claim_or_fault
  claims-fault h = rw (sym r.fault_is, lt-ltb 0 k h, (r.unchanged h).0, (r.unchanged h).1)

  pub claims-opens : k ≡ 0 → expect_payload (world t file m n) c s (e - s) last ≡ claim_or_fault (world t file l d) c s e doubt last
  unfolding claim_or_fault claim_range
  claims-opens z = rw (sym r.fault_is ∙ z, r.claimed z, r.doubted z)
