-- The state of a channel, from its number.
use Rattle.std.proofs.Common.{◌≡◌, ℕ, zero, suc, ◌*◌, ◌<◌, ◌≤◌, false, eqb, ◌⊎◌, List, take, drop, refl, inl, inr, arith}
use Rattle.transfer.specs.declared.state.Transfer.{Transfer}
use Rattle.transfer.specs.Channel.{held_limit, unused, header, payload, ended, decode_state, channel_at, state_at}
use Rattle.transfer.specs.Receive.{is_ended}

pub in_payload : (s : ℕ) → 1 < s → s < 4 → (s ≡ 2) ⊎ (s ≡ 3)
in_payload zero a b = absurd (omega arith)
in_payload (suc zero) a b = absurd (omega arith)
in_payload (suc (suc zero)) a b = inl refl
in_payload (suc (suc (suc zero))) a b = inr refl
in_payload (suc (suc (suc (suc s)))) a b = absurd (omega arith)

-- ---- as it is read, with the bytes held

module _ (h : List ℕ) (n m : ℕ) where
  reads-payload : (s : ℕ) → (s ≡ 2) ⊎ (s ≡ 3) → decode_state s h n m ≡ payload n m (eqb s 3)
  unfolding decode_state
  reads-payload s (inl e) = rw e
  reads-payload s (inr e) = rw e

  reads-ended : (s : ℕ) → 4 ≤ s → decode_state s h n m ≡ ended
  unfolding decode_state
  reads-ended zero a = absurd (omega arith)
  reads-ended (suc zero) a = absurd (omega arith)
  reads-ended (suc (suc zero)) a = absurd (omega arith)
  reads-ended (suc (suc (suc zero))) a = absurd (omega arith)
  reads-ended (suc (suc (suc (suc s)))) a = refl

  reads-alive : (s : ℕ) → s < 4 → is_ended (decode_state s h n m) ≡ false
  unfolding decode_state
  reads-alive zero a = refl
  reads-alive (suc zero) a = refl
  reads-alive (suc (suc zero)) a = refl
  reads-alive (suc (suc (suc zero))) a = refl
  reads-alive (suc (suc (suc (suc s)))) a = absurd (omega arith)

-- ---- channel c

module _ (t : Transfer) (c : ℕ) where
  pub is-unused : (channel_at t c).state ≡ 0 → state_at t c ≡ unused
  unfolding state_at decode_state
  is-unused e = rw e

  pub is-header : (channel_at t c).state ≡ 1 → state_at t c ≡ header (take (channel_at t c).held (drop (held_limit * c) t.heads))
  unfolding state_at decode_state
  is-header e = rw e

  pub is-payload : 1 < (channel_at t c).state → (channel_at t c).state < 4 → state_at t c ≡ payload (channel_at t c).next (channel_at t c).left (eqb (channel_at t c).state 3)
  unfolding state_at
  is-payload a b = reads-payload _ (channel_at t c).next (channel_at t c).left (channel_at t c).state (in_payload (channel_at t c).state a b)

  pub is-ended : 4 ≤ (channel_at t c).state → state_at t c ≡ ended
  unfolding state_at
  is-ended a = reads-ended _ (channel_at t c).next (channel_at t c).left (channel_at t c).state a

  pub not-ended : (channel_at t c).state < 4 → is_ended (state_at t c) ≡ false
  unfolding state_at
  not-ended a = reads-alive _ (channel_at t c).next (channel_at t c).left (channel_at t c).state a
