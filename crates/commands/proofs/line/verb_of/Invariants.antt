-- `line::verb_of`: the search from a place on finds what the whole search finds.
use Prim.Native.Nat.{◌+◌}
use mathlib.Core.Path.{◌≡◌}
use lib.ListN.{drop}
use Rattle.commands.specs.Line.{verbs, verb_number_from, verb_number}
use Rattle.commands.proofs.line.verb_of.Given as goal

abbrev pub invariant-loop-name : goal.invariant-loop-name
invariant-loop-name l = verb_number_from (l.name-index + 1) (drop l.name-index verbs) l.upper ≡ verb_number l.word
