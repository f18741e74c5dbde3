-- A channel's state as its taken bytes make it.
use Rattle.std.specs.Prelude.{ℕ, ◌+◌, ◌-◌, cond, List, [], ◌∷◌, ltb, length}
use Rattle.transfer.specs.Channel.{State, unused, header, payload, ended}
use Rattle.transfer.specs.Header.{ends_channel}
use Rattle.transfer.specs.Receive.{is_non_empty}
use Rattle.transfer.specs.Block.{Block, place_of, size_of, cut, partial_header}
use Rattle.transfer.specs.Tally.{Stream, intact, faulted}

-- by the last block and the header begun after it: in its payload where bytes of that are still to come, else ended or in the next header
unfoldable pub state_after_block : Block → List ℕ → State
state_after_block x r =
    let come = length x.body in
    cond (ltb come (size_of x)) (payload (place_of x + come) (size_of x - come) (ends_channel x.head)) (cond (ends_channel x.head) ended (header r))

unfoldable pub state_after_blocks : List Block → List ℕ → State
state_after_blocks [] r = header r
state_after_blocks (x ∷ []) r = state_after_block x r
state_after_blocks (x ∷ y ∷ xs) r = state_after_blocks (y ∷ xs) r

-- where its last header was judged a fault, it is in a header of which nothing is held
unfoldable pub state_from : Stream → State
state_from (intact bs) = cond (is_non_empty bs) (state_after_blocks (cut bs) (partial_header bs)) unused
state_from (faulted bs) = header []
