-- `line::verb_of`: the search from a place on finds what the whole search finds.
use mathlib.Core.Path.{◌≡◌, sym, ap, ◌∙◌}
use mathlib.Core.List.{map}
use native.Mathlib.Omega.{arith}
use Rattle.std.specs.Char.{to_ascii_uppercase}
use Rattle.commands.specs.Line.{verbs, verb_number_from, verb_number}
use Rattle.commands.proofs.VerbTable.{listed, not-listed, not-four, capitals}
use Rattle.commands.proofs.line.verb_of.Goals as goal

pub returns-in_default : goal.returns-in_default
returns-in_default c = not-four c.args.word.now c.in_default.ensures.1

pub loop-name-init : goal.loop-name-init
unfolding verb_number
loop-name-init c =
    ap (verb_number_from 1 verbs) (c.make_ascii_uppercase.ensures.after ∙ ap (map to_ascii_uppercase) c.in-Ok.ensures.1.same ∙ capitals c.args.word.now)

pub returns-then-eq : goal.returns-then-eq
returns-then-eq c =
    sym (listed _ c.loop-name.name-index (omega arith) (sym c.if-eq.ensures)) ∙ c.loop-name.invariant

pub loop-name-preserved : goal.loop-name-preserved
loop-name-preserved c =
    sym (not-listed _ c.loop-name.name-index (omega arith) (sym c.if-eq.ensures)) ∙ c.loop-name.invariant

pub returns : goal.returns
unfolding verb_number_from
returns c =
    let e : c.loop-name.name-index ≡ 12 = omega arith in
    rw e at c.loop-name.invariant
