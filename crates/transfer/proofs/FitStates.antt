-- The states that FIT allows a channel: how their numbers and bytes are in the struct.
use Prim.Native.Nat.{ℕ, ◌+◌, ◌-◌, ◌≤◌, ◌<◌}
use mathlib.Core.Path.{◌≡◌, refl, ap, ◌∙◌}
use mathlib.Core.Logic.{inl, inr}
use mathlib.Core.Bool.{true, false}
use mathlib.Core.List.{◌++◌}
use native.Mathlib.Omega.{arith}
use lib.ListN.{length, get_or, replicate, get_or-replicate}
use lib.Seq.{get_or-append-add}
use Rattle.transfer.specs.Channel.{held_limit, State, unused, header, payload, ended, state_code, held_length, next_place, bytes_left, held_bytes, encode_state}
use Rattle.transfer.proofs.ChannelReadBack.{Stands}
use Rattle.transfer.proofs.FitChannelKinds.{Stage, resting, collecting, storing}

abbrev pub Steady : State → Type 0
Steady unused = Unit {0}
Steady (header r) = length r ≤ held_limit
Steady (payload p n e) = 0 < n
Steady ended = Unit {0}

pub steady-stands : (x : State) → Steady x → Stands x
steady-stands unused s = tt
steady-stands (header r) s = s
steady-stands (payload p n e) s = tt
steady-stands ended s = tt

pub steady-stage : (x : State) → Steady x → Stage (encode_state x)
unfolding encode_state state_code held_length next_place bytes_left
steady-stage unused s = resting (inl refl) refl refl refl
steady-stage (header r) s = collecting refl s refl refl
steady-stage (payload p n true) s = storing (inr refl) refl s
steady-stage (payload p n false) s = storing (inl refl) refl s
steady-stage ended s = resting (inr refl) refl refl refl

-- what it doesn't hold is 0
pub steady-zero : (x : State) (i : ℕ) → held_length x ≤ i → i < held_limit → get_or (held_bytes x) i 0 ≡ 0
unfolding held_length held_bytes
steady-zero unused i h g = get_or-replicate {A = ℕ} held_limit i 0 0 g
steady-zero (header r) i h g =
    let e : i ≡ length r + (i - length r) = omega arith in
    ap (λ j. get_or (r ++ replicate (held_limit - length r) 0) j 0) e
    ∙ get_or-append-add r (replicate (held_limit - length r) 0) (i - length r) 0 ∙ get_or-replicate {A = ℕ} (held_limit - length r) (i - length r) 0 0 (omega arith)
steady-zero (payload p n e) i h g = get_or-replicate {A = ℕ} held_limit i 0 0 g
steady-zero ended i h g = get_or-replicate {A = ℕ} held_limit i 0 0 g
