-- A header applied: what the code leaves for what the header asks is what its judgement leaves.
use Prim.Native.Nat.{ℕ, ◌-◌, ◌<◌}
use mathlib.Core.Path.{◌≡◌, sym}
use mathlib.Core.Bool.{Bool}
use mathlib.Core.List.{List}
use native.Mathlib.Omega.{arith}
use Rattle.transfer.specs.declared.state.Transfer.{Transfer}
use Rattle.transfer.specs.Channel.{put_count}
use Rattle.transfer.specs.Transfer.{used_of, World, world}
use Rattle.transfer.specs.Header.{ends_channel, payload_length, HeaderRequest, counts, claims, nothing, faulty, request_of}
use Rattle.transfer.specs.Judgement.{HeaderAsks, by_descriptor, by_14, by_15, for_count, for_nothing, by_16, for_claim}
use Rattle.transfer.specs.Receive.{Outcome, stop_with_fault, expect_payload, apply_request, apply_header}
use Rattle.transfer.proofs.JudgementByTransfer.{asked}
use Rattle.headers.specs.ClaimOrFault.{claim_or_fault}

-- a range that a header asks for is not empty, and is as long as the payload
module _ (F known used : ℕ) (h : List ℕ) where
  abbrev Ranged : HeaderRequest → Type 0
  Ranged (counts n) = Unit {0}
  Ranged (claims s e doubt) = (s < e) × (e - s ≡ payload_length h)
  Ranged nothing = Unit {0}
  Ranged (faulty k) = Unit {0}

  ranged : (a : HeaderRequest) → HeaderAsks F known used h a → Ranged a
  unfolding payload_length
  ranged _ (by_descriptor d) = tt
  ranged _ (by_14 d q k) = tt
  ranged _ (by_15 d q k z) = tt
  ranged _ (for_count d q k n₀ n₁ n₂) = tt
  ranged _ (for_nothing d q z) = tt
  ranged _ (by_16 d q l f) = tt
  ranged _ (for_claim d q l f) = (omega arith, rw q (omega arith))

  pub range-asked : (s e : ℕ) (doubt : Bool) → claims s e doubt ≡ request_of F known used h → (s < e) × (e - s ≡ payload_length h)
  range-asked s e doubt q = rw (sym q) at (ranged (request_of F known used h) (asked F known used h))

module _ (t : Transfer) (file claimed doubtful : List ℕ) (c : ℕ) (h : List ℕ) where
  abbrev AsksFor : HeaderRequest → Type 0
  AsksFor a = a ≡ request_of t.len t.count (used_of t) h

  pub apply-fault : (k : ℕ) → AsksFor (faulty k) → stop_with_fault (world t file claimed doubtful) c k ≡ apply_header (world t file claimed doubtful) c h
  unfolding apply_header apply_request
  apply-fault k q = rw (sym q)

  module _ (v : Outcome World) (last : Bool) (is : last ≡ ends_channel h) where
    pub apply-count : (n : ℕ) → AsksFor (counts n) → v ≡ expect_payload (world (put_count t n) file claimed doubtful) c 0 0 last → v ≡ apply_header (world t file claimed doubtful) c h
    unfolding apply_header apply_request
    apply-count n q e = rw (sym q) (rw is at e)

    pub apply-nothing : AsksFor nothing → v ≡ expect_payload (world t file claimed doubtful) c 0 0 last → v ≡ apply_header (world t file claimed doubtful) c h
    unfolding apply_header apply_request
    apply-nothing q e = rw (sym q) (rw is at e)

    pub apply-claim : (s e : ℕ) (doubt : Bool) → AsksFor (claims s e doubt) → v ≡ claim_or_fault (world t file claimed doubtful) c s e doubt last → v ≡ apply_header (world t file claimed doubtful) c h
    unfolding apply_header apply_request claim_or_fault
    apply-claim s e doubt q w = rw (sym q) (rw (is, (range-asked t.len t.count (used_of t) h s e doubt q).1) at w)
