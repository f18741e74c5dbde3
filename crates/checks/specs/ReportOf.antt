-- What FIT counts on its way: where transfer and ledgers fit, the channels not unused and those that have ended; where they don't, nothing.
use Rattle.std.specs.Prelude.{ℕ, cond, Option, None, List, eqb}
use Rattle.transfer.specs.declared.state.Transfer.{Transfer}
use Rattle.transfer.specs.Fit.{fits_without_file}
use Rattle.channelchecks.specs.declared.report.FitReport.{FitReport}
use Rattle.channelchecks.specs.FitReport.{report_if}

unfoldable pub report_of : Transfer → List ℕ → List ℕ → Option FitReport
report_of t claimed doubtful = report_if (fits_without_file t claimed doubtful) t

-- for a file of so many bytes
unfoldable pub report_with_file : ℕ → Transfer → List ℕ → List ℕ → Option FitReport
report_with_file file t claimed doubtful = cond (eqb file t.len) (report_of t claimed doubtful) None
