-- The fault of a header whose range is judged: for one that is not doubtful, what `claim::judge` answers for the claimed ledger has the number that the
-- receiver's rules give.
use Rattle.std.specs.Prelude.{ℕ, false, ◌≡◌}
use Rattle.ledger.specs.Pairs.{Pairs}
use Rattle.answers.specs.Refusal.{number_in}
use Rattle.claims.specs.Claim.{judged}
use Rattle.transfer.specs.Header.{claim_fault}

pub record ClaimNumber : Type 0 where
  pub claim_number_is : (R : ℕ) (ps ds : Pairs) (s e : ℕ) → number_in (judged R s e ps) ≡ claim_fault R ps ds s e false
