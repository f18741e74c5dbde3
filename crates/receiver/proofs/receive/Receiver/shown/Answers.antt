-- `Receiver::shown`: refused by FIT, or the numbers of what fits.
use Prim.Native.Nat.{◌<◌}
use mathlib.Core.Path.{◌≡◌, sym, ◌∙◌}
use mathlib.Core.Bool.{true}
use mathlib.Core.List.{[]}
use native.Mathlib.Omega.{arith}
use borrow.Author.Rules.{rules}
use Rattle.channelchecks.proofs.FitReportFields.{unfit-where, fit-where, ended-where}
use Rattle.transfer.specs.Transfer.{ended_of}
use Rattle.transfer.specs.Fit.{fits_without_file}
use Rattle.checks.specs.ReportOf.{report_of}
use Rattle.receiver.proofs.Shown.{doubt-whole, is-shown, not_shown, verdict-by}
use Rattle.receiver.proofs.receive.Receiver.shown.Goals as goal
use Rattle.receiver.proofs.receive.Receiver.shown.Goals.{After-t-1, In-Some}

-- the length that the transfer remembers is a 64-bit number
len-fits : (c : After-t-1) → c.args.self.transfer.len < 18446744073709551616
len-fits c = search rules

does-fit : (s : In-Some) → let x = s.args in fits_without_file x.self.transfer x.claimed.now x.doubtful.now ≡ true
unfolding report_of
does-fit s =
    let x = s.args in
    fit-where (fits_without_file x.self.transfer x.claimed.now x.doubtful.now) x.self.transfer s.in-Some.found (sym s.in-Some.is ∙ s.report.ensures)

ended_is : (s : In-Some) → s.in-Some.found.ended ≡ ended_of s.args.self.transfer
unfolding report_of
ended_is s =
    let x = s.args in
    ended-where (fits_without_file x.self.transfer x.claimed.now x.doubtful.now) x.self.transfer s.in-Some.found (sym s.in-Some.is ∙ s.report.ensures)

pub returns-in_default : goal.returns-in_default
unfolding report_of
returns-in_default c =
    let x = c.args in
    not_shown x.self.transfer x.claimed.now x.doubtful.now (unfit-where (fits_without_file x.self.transfer x.claimed.now x.doubtful.now) x.self.transfer (sym c.in_default.is ∙ c.report.ensures))

pub stored-requires : goal.stored-requires
stored-requires c = does-fit (goal.at.stored-requires c).In-Some

pub returns : goal.returns
returns c =
    let x = c.args in
    let t = x.self.transfer in
    let l = x.claimed.now in
    let d = x.doubtful.now in
    is-shown t l d (does-fit (goal.at.returns c).In-Some) c.of-verdict.result c.in-Some.found.ended c.stored.result c.total.result
    (c.of-verdict.ensures ∙ rw c.has_pair.ensures (verdict-by t [] l d c.in-Some.found.ended (ended_is (goal.at.returns c).In-Some)))
    (ended_is (goal.at.returns c).In-Some) c.stored.ensures (c.total.ensures ∙ doubt-whole t l d (does-fit (goal.at.returns c).In-Some) (omega (arith, len-fits (goal.at.returns c).After-t-1)))
