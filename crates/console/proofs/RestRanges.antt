-- What the reader's answer says of REST's text, where 1,020 entries or more are lent: a pair for each of 510 ranges, the most that 2,041 bytes hold.
use Prim.Native.Nat.{ℕ, ◌%◌, ◌≤◌}
use mathlib.Core.Path.{◌≡◌, refl, ◌∙◌}
use mathlib.Core.Bool.{Bool, true, false, cond}
use mathlib.Core.List.{List}
use native.Mathlib.Omega.{arith}
use lib.ListN.{length}
use Rattle.std.specs.Prelude.{Result, Ok, Err, ⊤, is_err}
use Rattle.answers.specs.Refusal.{numbered}
use Rattle.answers.specs.declared.refusal.Refusal.{Refusal}
use Rattle.rangelists.specs.RangeText.{has_malformed, read_ranges}
use Rattle.rangelists.proofs.MalformedRanges.{malformed-ranges}
use Rattle.console.specs.Sessions.{ArgumentRanges}

pub argument-ranges : ArgumentRanges
argument-ranges = record { at_most_510 = λ text h. omega (arith, malformed-ranges.four_bytes_each text) }

module _ (text ledger : List ℕ) (short : length text ≤ 2041) (even : length ledger % 2 ≡ 0) (few : length ledger ≤ 8192)
    (lent : 1020 ≤ length ledger) where
  pub reads : read_ranges text ledger ≡ cond (has_malformed text) (Err 51) (Ok tt)
  reads = malformed-ranges.by_the_text text ledger even few (omega (arith, argument-ranges.at_most_510 text short))

  -- it refuses where one of them is malformed
  pub refused-some : (r : Result ⊤ Refusal) → numbered r ≡ read_ranges text ledger → is_err r ≡ has_malformed text
  refused-some r e = go r (has_malformed text) (e ∙ reads)
    where
      go : (r : Result ⊤ Refusal) (b : Bool) → numbered r ≡ cond b (Err 51) (Ok tt) → is_err r ≡ b
      go (Ok u) true e = let z : ◌≡◌ {A = ℕ} 0 1 = cc in absurd (omega arith)
      go (Ok u) false e = refl
      go (Err k) true e = refl
      go (Err k) false e = let z : ◌≡◌ {A = ℕ} 0 1 = cc in absurd (omega arith)
