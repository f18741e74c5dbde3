-- A channel's numbers as FIT allows them, and what each kind of them says.
use Prim.Native.Nat.{ℕ, zero, suc, ◌+◌, ◌≤◌, ◌<◌}
use mathlib.Core.Path.{◌≡◌, refl}
use mathlib.Core.Logic.{◌⊎◌, inl, inr}
use native.Mathlib.Omega.{arith}
use Rattle.ledger.specs.Pairs.{in_range}
use Rattle.transfer.specs.declared.state.Channel.{Channel}
use Rattle.transfer.specs.Channel.{held_limit}
use Rattle.transfer.specs.Fitting.{InHeader, InPayload}

pub data Stage (k : Channel) : Type 0 where
  -- unused or ended
  resting : (k.state ≡ 0) ⊎ (k.state ≡ 4) → k.held ≡ 0 → k.next ≡ 0 → k.left ≡ 0 → Stage k
  collecting : InHeader k → k.held ≤ held_limit → k.next ≡ 0 → k.left ≡ 0 → Stage k
  storing : InPayload k → k.held ≡ 0 → 0 < k.left → Stage k

-- 1 where the place p is one of the bytes left
abbrev pub waits : ℕ → Channel → ℕ
waits p k = in_range k.next (k.next + k.left) p

module _ (k : Channel) where
  below-payload : k.state < 2 → InPayload k → ⊥
  below-payload h (inl e) = omega arith
  below-payload h (inr e) = omega arith

  above-payload : 3 < k.state → InPayload k → ⊥
  above-payload h (inl e) = omega arith
  above-payload h (inr e) = omega arith

  not-header : InPayload k → InHeader k → ⊥
  not-header (inl e) h = omega arith
  not-header (inr e) h = omega arith

  pub stage-of : k.state ≤ 4 → (InPayload k → 0 < k.left) → (InHeader k → k.held ≤ held_limit) → ((InHeader k → ⊥) → k.held ≡ 0)
      → ((InPayload k → ⊥) → (k.next ≡ 0) × (k.left ≡ 0)) → Stage k
  stage-of s l h n r = go k.state refl
    where
      go : (m : ℕ) → k.state ≡ m → Stage k
      go zero e = let z = r (below-payload (omega arith)) in resting (inl e) (n (λ x. omega arith)) z.0 z.1
      go (suc zero) e = let z = r (below-payload (omega arith)) in collecting e (h e) z.0 z.1
      go (suc (suc zero)) e = storing (inl e) (n (λ x. omega arith)) (l (inl e))
      go (suc (suc (suc zero))) e = storing (inr e) (n (λ x. omega arith)) (l (inr e))
      go (suc (suc (suc (suc zero)))) e = let z = r (above-payload (omega arith)) in resting (inr e) (n (λ x. omega arith)) z.0 z.1
      go (suc (suc (suc (suc (suc m))))) e = absurd (omega arith)

  pub state-known : Stage k → k.state ≤ 4
  state-known (resting (inl e) h p n) = omega arith
  state-known (resting (inr e) h p n) = omega arith
  state-known (collecting e h p n) = omega arith
  state-known (storing (inl e) h n) = omega arith
  state-known (storing (inr e) h n) = omega arith

  pub some_left : Stage k → InPayload k → 0 < k.left
  some_left (resting (inl e) h p n) y = absurd (below-payload (omega arith) y)
  some_left (resting (inr e) h p n) y = absurd (above-payload (omega arith) y)
  some_left (collecting e h p n) y = absurd (not-header y e)
  some_left (storing e h n) y = n

  pub held-within : Stage k → k.held ≤ held_limit
  held-within (resting e h p n) = omega arith
  held-within (collecting e h p n) = h
  held-within (storing e h n) = omega arith

  pub none_held : Stage k → (InHeader k → ⊥) → k.held ≡ 0
  none_held (resting e h p n) y = h
  none_held (collecting e h p n) y = absurd (y e)
  none_held (storing e h n) y = h

  pub rest_zero : Stage k → (InPayload k → ⊥) → (k.next ≡ 0) × (k.left ≡ 0)
  rest_zero (resting e h p n) y = (p, n)
  rest_zero (collecting e h p n) y = (p, n)
  rest_zero (storing e h n) y = absurd (y e)

  pub in_payload : Stage k → 0 < k.left → InPayload k
  in_payload (resting e h p n) y = absurd (omega arith)
  in_payload (collecting e h p n) y = absurd (omega arith)
  in_payload (storing e h n) y = e
