-- `line::argument`.
use Rattle.std.proofs.Common.{◌≤◌, length, sym, arith}
use Rattle.commands.specs.Line.{argument_of}
use Rattle.commands.proofs.Lines.{reads-within}
use Rattle.commands.proofs.line.argument.Goals as goal
use Rattle.commands.proofs.line.argument.Goals.{In-Ok}

-- the two places of a command lie within its line
within : (c : In-Ok) → (c.in-Ok.field-0.from ≤ c.in-Ok.field-0.to) × (c.in-Ok.field-0.to ≤ length c.args.line.now)
within c = reads-within c.args.line.now _ _ _ (sym c.in-Ok.ensures)

pub slice_bounds-result-count : goal.slice_bounds-result-count
slice_bounds-result-count c = omega (arith, within c)

pub slice_bounds-result-start : goal.slice_bounds-result-start
slice_bounds-result-start c = omega (arith, within c)

pub slice_bounds-result-end-2 : goal.slice_bounds-result-end-2
slice_bounds-result-end-2 c = omega (arith, within c)

pub returns-in_default : goal.returns-in_default
unfolding argument_of
returns-in_default c = rw (sym c.in_default.ensures)

pub returns : goal.returns
unfolding argument_of
returns c = rw (sym c.in-Ok.ensures)
