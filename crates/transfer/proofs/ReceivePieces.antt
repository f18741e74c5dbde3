-- A piece is taken byte by byte: what one byte leads to, and a run of payload bytes short of the payload's end as one copy.
use Prim.Native.Nat.{ℕ, zero, suc, ◌+◌, ◌-◌, ◌<◌}
use mathlib.Core.Path.{◌≡◌, refl, ap, ◌∙◌}
use mathlib.Core.Bool.{Bool}
use mathlib.Core.List.{List, [], ◌∷◌, ◌++◌}
use native.Mathlib.Omega.{arith}
use lib.ListN.{length, set}
use lib.Seq.{sets}
use Rattle.transfer.specs.declared.state.Transfer.{Transfer}
use Rattle.transfer.specs.Channel.{State, payload, put_state}
use Rattle.transfer.specs.Transfer.{World, world}
use Rattle.transfer.specs.Receive.{Outcome, continues, stops, not_taken, expect_payload, store_payload_byte, take_byte_in, take_byte, took, take_bytes}
use Rattle.transfer.proofs.ChannelReadBack.{Has, get-put, put-put}

module _ {W : Type 0} (f : W → ℕ → Outcome W) where
  pub bytes-none : (w : W) (k : ℕ) → take_bytes f w [] k ≡ (took k, w)
  unfolding take_bytes
  bytes-none w k = refl

  pub bytes-goes : (w v : W) (b : ℕ) (bs : List ℕ) (k : ℕ) → f w b ≡ continues v → take_bytes f w (b ∷ bs) k ≡ take_bytes f v bs (suc k)
  unfolding take_bytes
  bytes-goes w v b bs k e = rw (e, take_bytes)

  pub bytes-stops : (w v : W) (b : ℕ) (bs : List ℕ) (k : ℕ) → f w b ≡ stops v → take_bytes f w (b ∷ bs) k ≡ (took (suc k), v)
  unfolding take_bytes
  bytes-stops w v b bs k e = rw (e, take_bytes)

  pub bytes-leaves : (w v : W) (b : ℕ) (bs : List ℕ) (k : ℕ) → f w b ≡ not_taken v → take_bytes f w (b ∷ bs) k ≡ (took k, v)
  unfolding take_bytes
  bytes-leaves w v b bs k e = rw (e, take_bytes)

-- ---- a payload's bytes

-- the world with the channel c in a state
abbrev pub at : Transfer → List ℕ → List ℕ → List ℕ → ℕ → State → World
at t file claimed doubtful c x = world (put_state t c x) file claimed doubtful

pub payload-byte : (t : Transfer) (file claimed doubtful : List ℕ) (c p n b : ℕ) (e : Bool) → Has t c
    → take_byte (at t file claimed doubtful c (payload p (suc (suc n)) e)) c b ≡ continues (at t (set file p b) claimed doubtful c (payload (suc p) (suc n) e))
unfolding take_byte take_byte_in store_payload_byte expect_payload
payload-byte t file claimed doubtful c p n b e h =
    rw (get-put t c h (payload p (suc (suc n)) e))
    (ap (λ x. continues (world x (set file p b) claimed doubtful)) (put-put t c h (payload p (suc (suc n)) e) (payload (suc p) (suc n) e) tt))

pub payload-run : (ps qs : List ℕ) (t : Transfer) (file claimed doubtful : List ℕ) (c p n k : ℕ) (e : Bool) → Has t c → length ps < n
    → take_bytes (λ v b. take_byte v c b) (at t file claimed doubtful c (payload p n e)) (ps ++ qs) k
    ≡ take_bytes (λ v b. take_byte v c b) (at t (sets file p ps) claimed doubtful c (payload (p + length ps) (n - length ps) e)) qs (k + length ps)
payload-run [] qs t file claimed doubtful c p n k e h g =
    let a : p + 0 ≡ p = omega arith in
    let b : n - 0 ≡ n = omega arith in
    let d : k + 0 ≡ k = omega arith in
    rw (a, b, d)
payload-run (x ∷ ps) qs t file claimed doubtful c p zero k e h g = absurd (omega arith)
payload-run (x ∷ ps) qs t file claimed doubtful c p (suc zero) k e h g = absurd (omega arith)
payload-run (x ∷ ps) qs t file claimed doubtful c p (suc (suc n)) k e h g =
    let a : p + suc (length ps) ≡ suc p + length ps = omega arith in
    let b : suc (suc n) - suc (length ps) ≡ suc n - length ps = omega arith in
    let d : k + suc (length ps) ≡ suc k + length ps = omega arith in
    rw (a, b, d)
    (bytes-goes (λ v y. take_byte v c y) (at t file claimed doubtful c (payload p (suc (suc n)) e)) (at t (set file p x) claimed doubtful c (payload (suc p) (suc n) e)) x (ps ++ qs) k
    (payload-byte t file claimed doubtful c p n x e h)
    ∙ payload-run ps qs t (set file p x) claimed doubtful c (suc p) (suc n) (suc k) e h (omega arith))
