-- `session::begin`.
use Rattle.transfer.proofs.Start.{start as accepted}
use mathlib.Core.List.{[]}
use native.Mathlib.Omega.{arith}
use Rattle.transfer.specs.Transfer.{fresh}
use Rattle.transfer.specs.declared.state.Transfer.{Transfer}
use mathlib.Core.Bool.{false}
use mathlib.Core.Path.{◌≡◌, refl, ap, ◌∙◌}
use Rattle.recordings.proofs.session.begin.Goals as goal

pub returns : goal.returns
returns c =
    let e : c.start-started.result.receiver.transfer ≡ fresh 0 0 = c.start-started.ensures.1 ∙ (accepted.accepted 0 [] [] refl (omega arith) refl).1 in
    ap (λ (t : Transfer). record { progress = record { receiver = record { transfer = t }; number = 0; started = false }; held = 0; stopped = false }) e
