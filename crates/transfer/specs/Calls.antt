-- Lists of calls: each gets transfer, file and ledgers as the last left them.
use Rattle.std.specs.Prelude.{ℕ, List, [], ◌∷◌, length}
use Rattle.transfer.specs.Transfer.{World, world, start_of, start_after}
use Rattle.transfer.specs.Receive.{Answer, receive_of}

pub data Call : Type 0 where
  -- a piece on a channel
  receive : ℕ → List ℕ → Call

unfoldable pub call_of : World → Call → Answer × World
call_of w (receive c piece) = receive_of w c piece

-- the answers, and what the last call left
unfoldable pub fold_calls {ℓ} : {W : Type ℓ} → (W → Call → Answer × W) → W → List Call → List Answer × W
fold_calls f w [] = ([], w)
fold_calls f w (k ∷ ks) =
    let a = f w k in
    let r = fold_calls f a.1 ks in
    (a.0 ∷ r.0, r.1)

-- what start leaves of two lent ledgers, with a file of the length that it was told
unfoldable pub started_world : List ℕ → List ℕ → List ℕ → World
started_world file claimed doubtful =
    world (start_of (length file) claimed doubtful) file (start_after claimed doubtful claimed) (start_after claimed doubtful doubtful)

abbrev pub answers_of : World → List Call → List Answer
answers_of w ks = (fold_calls call_of w ks).0

abbrev pub after : World → List Call → World
after w ks = (fold_calls call_of w ks).1
