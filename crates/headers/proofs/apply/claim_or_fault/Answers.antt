-- `apply::claim_or_fault`.
use Prim.Native.Nat.{ℕ}
use mathlib.Core.Path.{refl, ◌∙◌}
use mathlib.Core.Bool.{Bool}
use mathlib.Core.List.{List}
use Rattle.answers.specs.Refusal.{number}
use Rattle.answers.proofs.Numbers.{above_0}
use Rattle.transfer.specs.declared.state.Transfer.{Transfer}
use Rattle.channels.specs.declared.channel_state.ChannelState.{ChannelState}
use Rattle.channels.specs.ChannelState.{write_back}
use Rattle.channels.proofs.WriteBack.{write-back-pairs}
use Rattle.headers.specs.ClaimRange.{ClaimResult}
use Rattle.headers.proofs.ClaimOrFault.{claims-fault, claims-opens}
use Rattle.headers.proofs.apply.claim_or_fault.Goals as goal

-- what claiming the range left, in a transfer of which x is a channel
claim-left : (t : Transfer) (c : ℕ) (x : ChannelState) (start end : ℕ) (doubt : Bool) (claimed doubtful m y : List ℕ) (k : ℕ)
    → ClaimResult t.pairs start end doubt claimed doubtful k m y → ClaimResult (write_back t c x).pairs start end doubt claimed doubtful k m y
claim-left t c x start end doubt claimed doubtful m y k h = rw (write-back-pairs t c x) h

pub returns-in-Err : goal.returns-in-Err
returns-in-Err c o t file a n f =
    let x = c.args in
    let k = number c.in-Err.fault in
    let r = rw c.in-Err.is at (c.claim_range.ensures t.pairs o n f) in
    c.faulty.ensures t file _ _ a
    ∙ claims-fault (write_back t x.c x.x) file x.claimed.now x.doubtful.now x.c x.start x.end x.doubt x.last k _ _ (claim-left t x.c x.x _ _ _ _ _ _ _ k r) (above_0 c.in-Err.fault)

pub returns-in-Ok : goal.returns-in-Ok
returns-in-Ok c o t file a n f =
    let x = c.args in
    let r = rw c.in-Ok.is at (c.claim_range.ensures t.pairs o n f) in
    c.expect_payload.ensures t x.c file _ _ a
    ∙ claims-opens (write_back t x.c x.x) file x.claimed.now x.doubtful.now x.c x.start x.end x.doubt x.last 0 _ _ (claim-left t x.c x.x _ _ _ _ _ _ _ 0 r) refl
