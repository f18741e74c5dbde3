-- The channels not unused, one by one.
use Prim.Native.Nat.{ℕ, ◌+◌, ◌<◌}
use mathlib.Core.Path.{◌≡◌, refl}
use mathlib.Core.Logic.{inl, inr}
use mathlib.Core.List.{List, [], ◌∷◌}
use native.Mathlib.Omega.{arith}
use native.Mathlib.Decide.{ℕ_discrete}
use borrow.Author.Tests.{lt-ltb, ne_eqb}
use Rattle.transfer.specs.declared.state.Channel.{Channel}
use Rattle.transfer.specs.Transfer.{sum, one_if_ended, one_if_active}
use Rattle.transfer.proofs.FitChannelKinds.{Stage, resting, collecting, storing, state-known}

-- one for each channel not unused
abbrev pub one_if_used : Channel → ℕ
one_if_used k = one_if_ended k + one_if_active k

pub sum_used : (ks : List Channel) → sum one_if_used ks ≡ sum one_if_ended ks + sum one_if_active ks
unfolding sum
sum_used [] = refl
sum_used (k ∷ ks) = omega (arith, sum_used ks)

-- ---- a channel that fits

pub none_left : (k : Channel) → Stage k → k.state ≡ 0 → k.left ≡ 0
none_left k (resting e h p n) z = n
none_left k (collecting e h p n) z = n
none_left k (storing (inl e) h n) z = absurd (omega arith)
none_left k (storing (inr e) h n) z = absurd (omega arith)

pub is-used : (k : Channel) → Stage k → 0 < k.state → one_if_used k ≡ 1
is-used k s h = go (ℕ_discrete k.state 4)
  where
    go : Dec (k.state ≡ 4) → one_if_used k ≡ 1
    go (yes e) = rw e
    go (no e) = rw (ne_eqb k.state 4 e, lt-ltb 0 k.state h, lt-ltb k.state 4 (omega (arith, state-known k s)))
