-- `ranges::join_list`: what is left of the list, joined to the ledger as it is, is the whole list joined to the ledger at entry.
use mathlib.Core.Path.{◌≡◌}
use mathlib.Core.Bool.{true}
use lib.ListN.{length, drop}
use Rattle.ledger.specs.Ledger.{obeys, pairs_of, capacity}
use Rattle.rangelists.specs.RangeText.{merged_from, parts}
use Rattle.rangelists.proofs.PartsByComma.{pieces}
use Rattle.rangelists.proofs.ranges.join_list.Given as goal

abbrev pub invariant-loop-part : goal.invariant-loop-part
invariant-loop-part l =
    (obeys l.ledger ≡ true)
    × (merged_from (capacity l.initial.ledger) (pairs_of l.ledger) (drop (length l.yielded) (pieces l.text)) ≡ merged_from (capacity l.initial.ledger) (pairs_of l.initial.ledger) (parts l.text))
    × (goal.iterator-loop-part).can_next l.part-iterator × (goal.iterator-loop-part).is_finite l.part-iterator
