-- `lines::answer`.
use mathlib.Core.Path.{sym, ap, ◌∙◌}
use Rattle.commands.specs.Line.{read_of, verb}
use Rattle.console.specs.Rows.{outcome, command_row, row_of}
use Rattle.console.proofs.LineRows.{command-reads, argument-short, row-command}
use Rattle.console.proofs.lines.answer.Goals as goal

pub command-requires : goal.command-requires
command-requires c =
    let x = c.args in
    let m = command-reads x.bytes.now _ (rw c.in-Ok.is at c.read.ensures) in
    rw c.argument.ensures (argument-short x.bytes.now m.0)

pub returns-in-Ok-2 : goal.returns-in-Ok-2
unfolding row_of
returns-in-Ok-2 c =
    let x = c.args in
    let m = command-reads x.bytes.now _ (rw c.in-Ok.is at c.read.ensures) in
    c.command.ensures
    ∙ ap (λ w. outcome w x.console)
    (ap (λ v. command_row x.console v c.argument.result.now) (sym m.1) ∙ ap (command_row x.console (verb (read_of x.bytes.now))) c.argument.ensures
    ∙ sym (row-command x.console x.bytes.now m.0 c.if-console.false))
