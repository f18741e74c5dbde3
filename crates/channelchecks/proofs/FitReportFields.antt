-- What is read off a report.
use mathlib.Core.Path.{◌≡◌, refl}
use mathlib.Core.Bool.{Bool, true, false, ◌&&◌}
use Rattle.std.specs.Bool.{then_some}
use Rattle.std.specs.Prelude.{Some, None, is_some}
use Rattle.transfer.specs.declared.state.Transfer.{Transfer}
use Rattle.transfer.specs.Transfer.{used_of, ended_of}
use Rattle.channelchecks.specs.declared.report.FitReport.{FitReport}
use Rattle.channelchecks.specs.FitReport.{report_if}

pub fits_where : (b : Bool) (t : Transfer) → is_some (report_if b t) ≡ b
fits_where true t = refl
fits_where false t = refl

pub used-where : (b : Bool) (t : Transfer) (f : FitReport) → Some f ≡ report_if b t → f.used ≡ used_of t
used-where true t f e = cc
used-where false t f e = cc

pub ended-where : (b : Bool) (t : Transfer) (f : FitReport) → Some f ≡ report_if b t → f.ended ≡ ended_of t
ended-where true t f e = cc
ended-where false t f e = cc

-- ---- whether there is one

pub unfit-where : (b : Bool) (t : Transfer) → None ≡ report_if b t → b ≡ false
unfit-where true t e = cc
unfit-where false t e = refl

pub fit-where : (b : Bool) (t : Transfer) (f : FitReport) → Some f ≡ report_if b t → b ≡ true
fit-where true t f e = refl
fit-where false t f e = cc

-- one that is kept only where a further test passes
pub then-where : (a b : Bool) (t : Transfer) (f : FitReport) → Some f ≡ report_if a t → then_some b f ≡ report_if (a && b) t
then-where true true t f e = e
then-where true false t f e = refl
then-where false b t f e = cc
