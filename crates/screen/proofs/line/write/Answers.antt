-- `line::write`: what is shown, as a line.
use mathlib.Core.Path.{sym, ap, ◌∙◌}
use native.Mathlib.Omega.{arith}
use Rattle.std.proofs.lemmas.Result.{err_from_is_err_and}
use Rattle.answers.specs.Refusal.{numbered}
use Rattle.answers.proofs.WrittenBy.{refused}
use Rattle.receiver.specs.declared.show.Shown.{Shown}
use Rattle.screen.specs.Screen.{line_for, screen_of, screen_after}
use Rattle.screen.proofs.Screen.{not-fit, fit, says-line, says-refused}
use Rattle.screen.proofs.line.write.Goals as goal

pub returns-in_err-shown : goal.returns-in_err-shown
unfolding screen_of screen_after
returns-in_err-shown c =
    let x = c.args in
    let t = x.receiver.transfer in
    let l = x.claimed.now in
    let d = x.doubtful.now in
    let n = says-refused t l d _ (sym (ap (numbered {A = Shown}) c.in_err-shown.was) ∙ c.shown.ensures) in
    let p = err_from_is_err_and c.from_residual.result c.from_residual.ensures.1 in
    rw (p.1, p.2) (refused _ _ (line_for t l d) x.out.now _ (not-fit t l d x.out.now n.0 ∙ sym n.1) (omega (arith, n.1)))

pub returns : goal.returns
unfolding screen_of screen_after
returns c =
    let x = c.args in
    let t = x.receiver.transfer in
    let l = x.claimed.now in
    let d = x.doubtful.now in
    let n = says-line t l d _ (sym (ap (numbered {A = Shown}) c.in_ok-shown.was) ∙ c.shown.ensures) in
    rw (fit t l d x.out.now n.0, ← n.1) (rw c.from.ensures at c.copy_to.ensures)
