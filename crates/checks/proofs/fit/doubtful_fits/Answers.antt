-- `fit::doubtful_fits`: every end of the ledger is a 64-bit number, so that only the rule is judged.
use Prim.Native.Nat.{◌*◌}
use mathlib.Core.Path.{◌≡◌, sym, ◌∙◌}
use mathlib.Core.Bool.{true, false, false≢true}
use native.Mathlib.Omega.{arith}
use borrow.Author.Rules.{rules}
use borrow.Author.Tests.{eq-eqb, ne_eqb}
use lib.ListN.{length}
use Rattle.ledger.specs.Ledger.{obeys}
use Rattle.ledger.proofs.LedgerSizes.{obeys-fits}
use Rattle.transfer.specs.Fit.{doubtful_fits}
use Rattle.checks.proofs.fit.doubtful_fits.Goals as goal
use Rattle.checks.proofs.fit.doubtful_fits.Goals.{then-doubtful-claimed, else-doubtful-claimed}

pub returns-then-obeys : goal.returns-then-obeys
unfolding doubtful_fits
returns-then-obeys c R e =
    let d = c.args.doubtful.now in
    elim c.if-doubtful-claimed.branch [
      | then-doubtful-claimed w ↦
          let n : length d ≡ 2 * R = omega (arith, e) in
          let o : obeys d ≡ true = sym (w.obeys.ensures ∙ obeys-fits d (λ i. omega (arith, c.type_inv.doubtful i))) ∙ search rules in
          rw (eq-eqb (length d) (2 * R) n, o) (c.all_inside.ensures o c.requires)
      | else-doubtful-claimed w ↦
          let f : c.if-doubtful-claimed.value ≡ false = search rules in
          let t : c.if-doubtful-claimed.value ≡ true = search rules in
          absurd (false≢true (sym f ∙ t))
    ]

pub returns-else-obeys : goal.returns-else-obeys
unfolding doubtful_fits
returns-else-obeys c R e =
    let d = c.args.doubtful.now in
    let v : c.if-doubtful-claimed.value ≡ false = search rules in
    elim c.if-doubtful-claimed.branch [
      | then-doubtful-claimed w ↦
          let n : length d ≡ 2 * R = omega (arith, e) in
          let o : obeys d ≡ false = sym (w.obeys.ensures ∙ obeys-fits d (λ i. omega (arith, c.type_inv.doubtful i))) ∙ search rules in
          v ∙ rw (eq-eqb (length d) (2 * R) n, o)
      | else-doubtful-claimed w ↦ v ∙ rw (ne_eqb (length d) (2 * R) (λ q. omega (arith, e, q)))
    ]
