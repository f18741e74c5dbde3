-- `fit::claimed_report`: a test that fails says so; the rest decide.
use mathlib.Core.Path.{◌≡◌, refl, sym, ◌∙◌}
use mathlib.Core.Bool.{true, false, ◌&&◌, and-false}
use mathlib.Core.List.{List}
use borrow.Author.Rules.{rules}
use Rattle.std.specs.Prelude.{ℕ, ◌*◌, Some, None, leb, eqb, length}
use Rattle.transfer.specs.declared.state.Transfer.{Transfer}
use Rattle.transfer.specs.Channel.{channel_count, held_limit}
use Rattle.transfer.specs.Fit.{pair_limit, count_fits, fault_fits, claimed_fits}
use Rattle.counts.proofs.Sum.{length-mapped}
use Rattle.channelchecks.specs.FitReport.{report_if, channels_fit_together, ledger_fits}
use Rattle.channelchecks.proofs.FitReportFields.{used-where, unfit-where, then-where}
use Rattle.checks.proofs.FitParts.{fits-by-parts, count-last, pairs-fail}
use Rattle.checks.proofs.fit.claimed_report.Goals as goal
use Rattle.checks.proofs.fit.claimed_report.Goals.{After-pairs_fit, then-not-pairs_fit-via-then-not-pairs_fit, then-not-pairs_fit-via-else-not-pairs_fit+then-not-fault_fits}

channels : (c : After-pairs_fit) → length c.args.t.channels ≡ channel_count
channels c = search (length-mapped, rules)

heads : (c : After-pairs_fit) → length c.args.t.heads ≡ held_limit * channel_count
heads c = search rules

fault-fails : (t : Transfer) (l : List ℕ) → length t.channels ≡ channel_count → length t.heads ≡ held_limit * channel_count → fault_fits t ≡ false → claimed_fits t l ≡ false
fault-fails t l h g f = fits-by-parts t l h g ∙ rw f (and-false _)

pub returns-then-not-pairs_fit : goal.returns-then-not-pairs_fit
returns-then-not-pairs_fit c =
    let x = c.args in
    let a = (goal.at.returns-then-not-pairs_fit c).After-pairs_fit in
    let z : claimed_fits x.t x.claimed.now ≡ false =
    elim c.then-not-pairs_fit.branch [
      | then-not-pairs_fit-via-then-not-pairs_fit w ↦ pairs-fail x.t x.claimed.now (search rules)
      | then-not-pairs_fit-via-else-not-pairs_fit+then-not-fault_fits w ↦ fault-fails x.t x.claimed.now (channels a) (heads a) (sym (w.fault_fits.ensures x.t refl refl) ∙ search rules)
    ] in
    rw z

pub returns-in_err-found : goal.returns-in_err-found
returns-in_err-found c =
    let x = c.args in
    let a = (goal.at.returns-in_err-found c).After-pairs_fit in
    let p : (leb x.t.pairs pair_limit && eqb (length x.claimed.now) (2 * x.t.pairs)) ≡ true = search rules in
    let f : fault_fits x.t ≡ true = sym (c.fault_fits.ensures x.t refl refl) ∙ search rules in
    let r : c.from_residual.result ≡ None = search rules in
    let n : None ≡ report_if (ledger_fits x.t x.claimed.now && channels_fit_together x.t x.claimed.now) x.t = search rules in
    r ∙ rw (count-last x.t x.claimed.now (channels a) (heads a) p f, unfit-where _ x.t n)

pub returns : goal.returns
returns c =
    let x = c.args in
    let a = (goal.at.returns c).After-pairs_fit in
    let b = ledger_fits x.t x.claimed.now && channels_fit_together x.t x.claimed.now in
    let p : (leb x.t.pairs pair_limit && eqb (length x.claimed.now) (2 * x.t.pairs)) ≡ true = search rules in
    let f : fault_fits x.t ≡ true = sym (c.fault_fits.ensures x.t refl refl) ∙ search rules in
    let e : Some c.in_ok-found.found ≡ report_if b x.t = search rules in
    let n : c.count_fits.result ≡ count_fits x.t = c.count_fits.ensures x.t refl (sym (used-where b x.t c.in_ok-found.found e)) in
    c.then_some.ensures ∙ rw (n, count-last x.t x.claimed.now (channels a) (heads a) p f) (then-where b (count_fits x.t) x.t c.in_ok-found.found e)
