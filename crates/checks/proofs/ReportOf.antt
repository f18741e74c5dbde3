-- A report, and FIT.
use Prim.Native.Nat.{ℕ}
use mathlib.Core.Path.{◌≡◌, refl}
use mathlib.Core.Bool.{Bool, true, false, cond, ◌&&◌}
use mathlib.Core.List.{List}
use lib.Dec.{eqb}
use Rattle.std.proofs.Common.{None}
use Rattle.transfer.specs.declared.state.Transfer.{Transfer}
use Rattle.transfer.specs.Fit.{fits_without_file}
use Rattle.channelchecks.specs.FitReport.{report_if}
use Rattle.checks.specs.ReportOf.{report_of, report_with_file}

pub report-in : (file : ℕ) (t : Transfer) (claimed doubtful : List ℕ) → report_with_file file t claimed doubtful ≡ report_if (eqb file t.len && fits_without_file t claimed doubtful) t
unfolding report_with_file report_of
report-in file t claimed doubtful = go (eqb file t.len)
  where
    go : (b : Bool) → cond b (report_if (fits_without_file t claimed doubtful) t) None ≡ report_if (b && fits_without_file t claimed doubtful) t
    go true = refl
    go false = refl
