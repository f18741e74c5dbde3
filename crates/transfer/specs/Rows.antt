-- What a receive call answers and leaves, row by row (document 01, "One transfer"), what its piece is, and what a list of calls is.
use Rattle.std.specs.Prelude.{ℕ, suc, ◌≤◌, ◌<◌, ◌≡◌, true, false, List, [], ◌∷◌, ◌++◌}
use Rattle.transfer.specs.Channel.{unused, ended, state_at, put_fault}
use Rattle.transfer.specs.Transfer.{used_of, World, with_transfer, guess, verdict_of}
use Rattle.transfer.specs.Receive.{Outcome, continues, stops, not_taken, refused, took, take_bytes, take_byte, receive_of}
use Rattle.transfer.specs.Fit.{fits}
use Rattle.transfer.specs.Calls.{Call, call_of, answers_of, after}

-- the premises carry the order of the numbers
pub record Rows : Type 1 where
  -- 1: transfer, file and ledgers don't fit
  pub row_1 : (w : World) (c : ℕ) (piece : List ℕ) → fits w ≡ false → receive_of w c piece ≡ (refused 1, w)
  -- 2: there is no such channel
  pub row_2 : (w : World) (c : ℕ) (piece : List ℕ) → fits w ≡ true → 64 ≤ c → receive_of w c piece ≡ (refused 2, w)
  -- 3: the verdict is not GUESS
  pub row_3 : (w : World) (c : ℕ) (piece : List ℕ) → fits w ≡ true → c < 64 → (verdict_of w ≡ guess → ⊥) → receive_of w c piece ≡ (refused 3, w)
  -- 4: bytes for a channel that has ended
  pub row_4 : (w : World) (c b : ℕ) (bs : List ℕ) → fits w ≡ true → c < 64 → verdict_of w ≡ guess → state_at w.t c ≡ ended
      → receive_of w c (b ∷ bs) ≡ (refused 4, w)
  -- an empty piece is taken, whatever the channel's state
  pub row_empty : (w : World) (c : ℕ) → fits w ≡ true → c < 64 → verdict_of w ≡ guess → receive_of w c [] ≡ (took 0, w)
  -- otherwise the bytes are taken one after the other
  pub row_taken : (w : World) (c b : ℕ) (bs : List ℕ) → fits w ≡ true → c < 64 → verdict_of w ≡ guess → (state_at w.t c ≡ ended → ⊥)
      → receive_of w c (b ∷ bs) ≡ take_bytes (λ v x. take_byte v c x) w (b ∷ bs) 0
  -- at the end of a piece, all of its bytes are taken
  pub piece_none : {W : Type 0} (f : W → ℕ → Outcome W) (w : W) (k : ℕ) → take_bytes f w [] k ≡ (took k, w)
  -- a byte after which the call goes on, one after which it stops, and one that is not taken; k bytes were taken before
  pub piece_continues : {W : Type 0} (f : W → ℕ → Outcome W) (w v : W) (b : ℕ) (bs : List ℕ) (k : ℕ) → f w b ≡ continues v → take_bytes f w (b ∷ bs) k ≡ take_bytes f v bs (suc k)
  pub piece_stops : {W : Type 0} (f : W → ℕ → Outcome W) (w v : W) (b : ℕ) (bs : List ℕ) (k : ℕ) → f w b ≡ stops v → take_bytes f w (b ∷ bs) k ≡ (took (suc k), v)
  pub piece_not_taken : {W : Type 0} (f : W → ℕ → Outcome W) (w v : W) (b : ℕ) (bs : List ℕ) (k : ℕ) → f w b ≡ not_taken v → take_bytes f w (b ∷ bs) k ≡ (took k, v)
  -- 19: the first byte of an unused channel is not taken while n is known and as many channels are used
  pub by_19 : (w : World) (c b : ℕ) → state_at w.t c ≡ unused → 0 < w.t.count → used_of w.t ≡ w.t.count → take_byte w c b ≡ not_taken (with_transfer w (put_fault w.t 19 c))
  -- one more call gets what the last left
  pub one_more : (w : World) (ks : List Call) (k : Call)
      → (after w (ks ++ k ∷ []) ≡ (call_of (after w ks) k).1) × (answers_of w (ks ++ k ∷ []) ≡ answers_of w ks ++ ((call_of (after w ks) k).0 ∷ []))
  -- once the verdict is not GUESS, no list of calls changes anything
  pub stays : (w : World) → (verdict_of w ≡ guess → ⊥) → (ks : List Call) → after w ks ≡ w
