-- `fit::report`: the claimed ledger decides first, then the doubtful one.
use mathlib.Core.Path.{◌≡◌, ◌∙◌}
use borrow.Author.Rules.{rules}
use Rattle.std.specs.Prelude.{Some, None}
use Rattle.transfer.specs.Fit.{claimed_fits, doubtful_fits, fits_without_file}
use Rattle.channelchecks.specs.FitReport.{report_if}
use Rattle.channelchecks.proofs.FitReportFields.{unfit-where, fit-where, then-where}
use Rattle.checks.specs.ReportOf.{report_of}
use Rattle.checks.proofs.FitParts.{claimed-ledger}
use Rattle.checks.proofs.fit.report.Goals as goal

pub returns-in_err-found : goal.returns-in_err-found
unfolding report_of fits_without_file
returns-in_err-found c =
    let x = c.args in
    let r : c.from_residual.result ≡ None = search rules in
    let n : None ≡ report_if (claimed_fits x.t x.claimed.now) x.t = search rules in
    r ∙ rw (unfit-where _ x.t n)

pub doubtful_fits-requires : goal.doubtful_fits-requires
doubtful_fits-requires c =
    let x = c.args in
    let e : Some c.in_ok-found.found ≡ report_if (claimed_fits x.t x.claimed.now) x.t = search rules in
    (claimed-ledger x.t x.claimed.now (fit-where _ x.t c.in_ok-found.found e)).1

pub returns : goal.returns
unfolding report_of fits_without_file
returns c =
    let x = c.args in
    let e : Some c.in_ok-found.found ≡ report_if (claimed_fits x.t x.claimed.now) x.t = search rules in
    let l = claimed-ledger x.t x.claimed.now (fit-where _ x.t c.in_ok-found.found e) in
    c.then_some.ensures ∙ rw (c.doubtful_fits.ensures x.t.pairs l.0) (then-where (claimed_fits x.t x.claimed.now) (doubtful_fits x.t.pairs x.claimed.now x.doubtful.now) x.t c.in_ok-found.found e)
