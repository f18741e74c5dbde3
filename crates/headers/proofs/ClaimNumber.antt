-- `ClaimNumber` holds.
use Prim.Native.Nat.{ℕ}
use mathlib.Core.Path.{◌≡◌, refl}
use Rattle.std.specs.Prelude.{Ok, Err}
use mathlib.Core.Bool.{Bool, true, false, cond, ◌||◌}
use lib.Dec.{ltb}
use Rattle.ledger.specs.Pairs.{Pairs, size, join, overlaps}
use Rattle.answers.specs.Refusal.{number_in}
use Rattle.claims.specs.declared.claim.Slot.{Slot}
use Rattle.claims.specs.Claim.{slot_of, judged}
use Rattle.transfer.specs.Header.{lacks_pairs, claim_fault}
use Rattle.headers.specs.ClaimNumber.{ClaimNumber}

pub claim_number_is : (R : ℕ) (ps ds : Pairs) (s e : ℕ) → number_in (judged R s e ps) ≡ claim_fault R ps ds s e false
unfolding judged claim_fault lacks_pairs
claim_number_is R ps ds s e = go (overlaps s e ps) (ltb R (size (join s e ps)))
  where
    go : (t u : Bool) → number_in {A = Slot} (cond t (Err 17) (cond u (Err 18) (Ok (slot_of s e ps)))) ≡ cond t 17 (cond (u || false) 18 0)
    go true u = refl
    go false true = refl
    go false false = refl

pub claim-numbers : ClaimNumber
claim-numbers = record { claim_number_is = claim_number_is }
