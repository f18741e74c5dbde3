-- A list of calls from an accepted start: the receiver runs along its tally.
use Prim.Native.Nat.{ℕ, ◌≤◌}
use mathlib.Core.Path.{◌≡◌, refl, ap, ◌∙◌}
use mathlib.Core.List.{List}
use lib.ListN.{length}
use Rattle.ledger.specs.Pairs.{Pairs, ObeyFrom}
use Rattle.transfer.specs.Transfer.{World}
use Rattle.transfer.specs.Fit.{pair_limit}
use Rattle.transfer.specs.Calls.{Call, call_of, fold_calls, after}
use Rattle.transfer.specs.Tally.{empty}
use Rattle.transfer.specs.AfterList.{StartedWith, tally_of, tally_answers}
use Rattle.transfer.proofs.TallyTransfer.{world_of}
use Rattle.transfer.proofs.TallyInvariant.{Invariant}
use Rattle.transfer.proofs.TallyCalls.{run}
use Rattle.transfer.proofs.TallyBegins.{begins}

pub record Along (w : World) (file : List ℕ) (R : ℕ) (before : Pairs) (ks : List Call) : Type 0 where
  pub ruled : ObeyFrom 0 before
  pub few : R ≤ pair_limit
  pub out : fold_calls call_of w ks ≡ (tally_answers (length file) R before ks, world_of (length file) R before file (tally_of (length file) R before ks))
  pub kept : Invariant (length file) R before (tally_of (length file) R before ks)

pub along : (w : World) (file : List ℕ) (R : ℕ) (before : Pairs) → StartedWith w file R before → (ks : List Call) → Along w file R before ks
along w file R before b ks =
    let i = begins w file R before b in
    let s = run (length file) R before file i.0 refl i.1 ks empty i.2 in
    record { ruled = i.0; few = i.1; out = ap (λ v. fold_calls call_of v ks) i.3 ∙ s.out; kept = s.kept }

pub world-along : (w : World) (file : List ℕ) (R : ℕ) (before : Pairs) → StartedWith w file R before → (ks : List Call)
    → after w ks ≡ world_of (length file) R before file (tally_of (length file) R before ks)
world-along w file R before b ks = ap (λ r. r.1) (along w file R before b ks).out
