-- The bytes left of the payloads as ranges, without the channels that have none left.
use Rattle.std.specs.Prelude.{cond, List, [], ◌∷◌, eqb}
use Rattle.rangechecks.specs.declared.disjoint.Range.{Range}
use Rattle.transfer.specs.declared.state.Channel.{Channel}

abbrev pub rest_of : Channel → Range
rest_of k = record { start = k.next; length = k.left }

-- of each channel that has bytes left
unfoldable pub rests_of : List Channel → List Range
rests_of [] = []
rests_of (k ∷ ks) =
    let after = rests_of ks in
    cond (eqb k.left 0) after (rest_of k ∷ after)
