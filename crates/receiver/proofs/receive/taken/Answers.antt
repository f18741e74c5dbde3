-- `receive::taken`: the channel taken out, the bytes of the piece in runs, and the channel written back.
use mathlib.Core.Path.{◌≡◌, sym, ap, ◌∙◌, subst}
use Prim.Native.Nat.{◌+◌}
use mathlib.Core.Bool.{true, cond}
use lib.Dec.{ltb, eqb}
use Rattle.transfer.specs.declared.state.Transfer.{Transfer}
use Rattle.transfer.specs.Transfer.{World, world, guess, result, suspect, broken, verdict_of}
use Rattle.transfer.specs.Receive.{took}
use Rattle.transfer.specs.Fit.{fits}
use Rattle.transfer.proofs.FitTests.{fits-together}
use Rattle.channels.specs.ChannelState.{write_back}
use Rattle.channels.specs.OtherChannels.{CountsOthers}
use Rattle.channels.proofs.WriteBack.{write-back-verdict}
use Rattle.channels.proofs.CountsOthers.{write-back-unchanged, counts-others}
use Rattle.verdicts.specs.Verdict.{count_reached}
use Rattle.runs.specs.Runs.{take_bytes_on}
use Rattle.receiver.proofs.receive.taken.Goals as goal
use Rattle.receiver.proofs.receive.taken.Goals.{After-counts_without-o, After-of-x}

abbrev given : After-counts_without-o → World
given a = let x = a.args in world x.t.now x.file.now x.claimed.now x.doubtful.now

others-counted : (a : After-counts_without-o) → let x = a.args in CountsOthers x.t.now x.c a.counts_without-o.result
others-counted a =
    let x = a.args in
    subst (CountsOthers x.t.now x.c) (sym a.counts_without-o.ensures) (counts-others (given a) (fits-together (given a) a.requires.1) x.c a.requires.0 x.found a.requires.2 a.requires.3)

as-given : (o : After-of-x) → let x = o.args in write_back x.t.now x.c o.of-x.result ≡ x.t.now
as-given o = let x = o.args in ap (write_back x.t.now x.c) o.of-x.ensures ∙ write-back-unchanged x.t.now x.c

fits_out : (o : After-of-x) → let x = o.args in fits (world (write_back x.t.now x.c o.of-x.result) x.file.now x.claimed.now x.doubtful.now) ≡ true
fits_out o = let x = o.args in ap (λ t. fits (world t x.file.now x.claimed.now x.doubtful.now)) (as-given o) ∙ o.requires.1

pub write_back-requires : goal.write_back-requires
write_back-requires c = c.requires.0

pub returns : goal.returns
returns c =
    let x = c.args in
    let y = c.take-r.result.channel in
    let file = c.take-r.new.file in
    let claimed = c.take-r.new.claimed in
    let doubtful = c.take-r.new.doubtful in (
      ap (λ (u : Transfer). (took c.take-r.result.taken, world u file claimed doubtful)) c.write_back.ensures
          ∙ c.take-r.ensures x.t.now (others-counted (goal.at.returns c).After-counts_without-o) (fits_out (goal.at.returns c).After-of-x)
          ∙ ap (λ u. take_bytes_on x.c (world u x.file.now x.claimed.now x.doubtful.now) x.piece.now 0) (as-given (goal.at.returns c).After-of-x),
      c.of-verdict.ensures
          ∙ ap (λ b. cond (ltb 0 y.fault) broken (cond (count_reached y.count (c.counts_without-o.result.ended + cond (eqb y.state 4) 1 0)) (cond b suspect result) guess)) c.has_pair.ensures
          ∙ sym (ap (λ u. verdict_of (world u file claimed doubtful)) c.write_back.ensures ∙ write-back-verdict x.t.now x.c c.counts_without-o.result (others-counted (goal.at.returns c).After-counts_without-o) y file claimed doubtful),
    )
