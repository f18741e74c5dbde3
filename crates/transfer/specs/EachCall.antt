-- What each call of a list adds to the tally (document 01, "The tally").
use Rattle.std.specs.Prelude.{ℕ, ◌≤◌, ◌<◌, ◌≡◌, ◌⊎◌, ◌≢◌, true, List, [], ◌∷◌, ◌++◌, length, take}
use Rattle.ledger.specs.Pairs.{Pairs}
use Rattle.transfer.specs.Transfer.{World}
use Rattle.transfer.specs.Receive.{refused, took}
use Rattle.transfer.specs.Calls.{Call, receive, call_of, after}
use Rattle.transfer.specs.Block.{has_ended}
use Rattle.transfer.specs.Tally.{Tally, taken, accepted, stream_at}
use Rattle.transfer.specs.AfterList.{StartedWith, tally_of}

-- n bytes of a piece for the channel c make u of the tally t
pub record Adds (t u : Tally) (c : ℕ) (piece : List ℕ) (n : ℕ) : Type 0 where
  pub few : n ≤ length piece
  -- the channel has exactly these bytes more, and no other has any
  pub more : taken (stream_at u c) ≡ taken (stream_at t c) ++ take n piece
  pub others : (d : ℕ) → d ≢ c → stream_at u d ≡ stream_at t d
  -- fewer than the piece has only after a fault or where the channel ended
  pub fewer : n < length piece → (0 < u.fault) ⊎ (has_ended (accepted (stream_at u c)) ≡ true)

pub record EachCall : Type 0 where
  -- answered with n bytes taken
  pub takes : (w : World) (file : List ℕ) (R : ℕ) (before : Pairs) → StartedWith w file R before → (ks : List Call) (c : ℕ) (piece : List ℕ) (n : ℕ)
      → (call_of (after w ks) (receive c piece)).0 ≡ took n
      → Adds (tally_of (length file) R before ks) (tally_of (length file) R before (ks ++ (receive c piece ∷ []))) c piece n
  -- refused: by 2, 3 or 4, and the tally is as it was
  pub refuses : (w : World) (file : List ℕ) (R : ℕ) (before : Pairs) → StartedWith w file R before → (ks : List Call) (c : ℕ) (piece : List ℕ) (n : ℕ)
      → (call_of (after w ks) (receive c piece)).0 ≡ refused n
      → ((n ≡ 2) ⊎ ((n ≡ 3) ⊎ (n ≡ 4))) × (tally_of (length file) R before (ks ++ (receive c piece ∷ [])) ≡ tally_of (length file) R before ks)
