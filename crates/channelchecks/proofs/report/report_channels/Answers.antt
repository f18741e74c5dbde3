-- `report::report_channels`: the ledger's rule, each channel, and then whether two payloads share a byte, decide.
use mathlib.Core.Path.{◌≡◌, sym}
use mathlib.Core.Bool.{true, false}
use borrow.Author.Rules.{rules}
use Rattle.ledger.specs.Ledger.{obeys}
use Rattle.channelchecks.specs.FitReport.{channels_fit_together, ledger_fits}
use Rattle.channelchecks.proofs.Payloads.{packed-apart}
use Rattle.channelchecks.proofs.report.report_channels.Goals as goal
use Rattle.channelchecks.proofs.report.report_channels.Goals.{After-all_disjoint}

-- the ledger fits
rule-fits : (c : After-all_disjoint) → ledger_fits c.args.t c.args.ledger.now ≡ true
rule-fits c =
    let a = c.in_ok-ruled.ensures in
    let o : obeys c.args.ledger.now ≡ true = rw a.0 at c.in_ok-ruled.ruled.by_rule in
    rw (o, a.1)

-- each channel fits, so whether two payloads share a byte decides
apart-decides : (c : After-all_disjoint) → channels_fit_together c.args.t c.args.ledger.now ≡ c.all_disjoint.result
apart-decides c =
    let v = c.in_ok-totals.ensures in
    let e = rw c.in_ok-ruled.ensures.0 at v.0 in
    rw (e, packed-apart c.args.t.channels, ← v.1.rests_all) (sym c.all_disjoint.ensures)

pub returns-then-not-all_disjoint : goal.returns-then-not-all_disjoint
returns-then-not-all_disjoint c =
    let a = (goal.at.returns-then-not-all_disjoint c).After-all_disjoint in
    let d : c.all_disjoint.result ≡ false = search rules in
    rw (rule-fits a, apart-decides a, d)

pub returns : goal.returns
returns c =
    let v = c.in_ok-totals.ensures in
    let a = (goal.at.returns c).After-all_disjoint in
    let d : c.all_disjoint.result ≡ true = search rules in
    rw (rule-fits a, apart-decides a, d, v.1.used_all, v.1.ended_all)
