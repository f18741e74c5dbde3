-- What the code leaves of a fault, and where a payload begins or is over, in the world's terms.
use Prim.Native.Nat.{ℕ, zero, suc, ◌<◌}
use mathlib.Core.Path.{◌≡◌, refl}
use mathlib.Core.Bool.{Bool, true, false}
use mathlib.Core.List.{List, []}
use native.Mathlib.Omega.{arith}
use Rattle.transfer.specs.declared.state.Transfer.{Transfer}
use Rattle.transfer.specs.Channel.{header, payload, ended, put_state, put_fault}
use Rattle.transfer.specs.Transfer.{World, world, with_transfer}
use Rattle.transfer.specs.Receive.{continues, stops, stop_with_fault, expect_payload}

opens-some : (w : World) (c p n : ℕ) (last : Bool) → 0 < n → continues (with_transfer w (put_state w.t c (payload p n last))) ≡ expect_payload w c p n last
unfolding expect_payload
opens-some w c p zero last z = absurd (omega arith)
opens-some w c p (suc n) last z = refl

-- from the transfer t the code makes u
module _ (t u : Transfer) (c : ℕ) (file claimed doubtful : List ℕ) where
  pub leaves-fault : (k : ℕ) → u ≡ put_fault (put_state t c (header [])) k c → stops (world u file claimed doubtful) ≡ stop_with_fault (world t file claimed doubtful) c k
  unfolding stop_with_fault
  leaves-fault k e = rw e

  -- n payload bytes from the place p on are to come
  module _ (p n : ℕ) (last : Bool) where
    pub ends : n ≡ 0 → last ≡ true → u ≡ put_state t c ended
        → stops (world u file claimed doubtful) ≡ expect_payload (world t file claimed doubtful) c p n last
    unfolding expect_payload
    ends z l e = rw (z, l, e)

    pub opens-header : n ≡ 0 → last ≡ false → u ≡ put_state t c (header [])
        → continues (world u file claimed doubtful) ≡ expect_payload (world t file claimed doubtful) c p n last
    unfolding expect_payload
    opens-header z l e = rw (z, l, e)

    pub opens-payload : 0 < n → u ≡ put_state t c (payload p n last)
        → continues (world u file claimed doubtful) ≡ expect_payload (world t file claimed doubtful) c p n last
    opens-payload z e = rw e (opens-some (world t file claimed doubtful) c p n last z)
