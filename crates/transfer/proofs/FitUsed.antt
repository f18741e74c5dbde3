-- The channels in use: counted one by one where the states are those of the struct, and no more than n where a count is known.
use Prim.Native.Nat.{ℕ, zero, suc, ◌+◌, ◌≤◌, ◌<◌}
use mathlib.Core.Path.{◌≡◌, refl}
use mathlib.Core.Logic.{inl, inr}
use mathlib.Core.Bool.{cond, ◌&&◌}
use mathlib.Core.List.{List, [], ◌∷◌}
use native.Mathlib.Omega.{arith}
use lib.Dec.{ltb, eqb}
use lib.ListN.{length, get_or}
use Rattle.transfer.specs.declared.state.Channel.{Channel}
use Rattle.transfer.specs.declared.state.Transfer.{Transfer}
use Rattle.transfer.specs.Channel.{blank}
use Rattle.transfer.specs.Transfer.{sum, one_if_ended, one_if_active, used_of}
use Rattle.transfer.specs.Fitting.{CountSays}

abbrev pub one_if_used : Channel → ℕ
one_if_used k = cond (eqb k.state 0) 0 1

-- what holds of each number that a state has in the struct holds of all of them
pub by_state : (P : ℕ → Type 0) → P 0 → P 1 → P 2 → P 3 → P 4 → (n : ℕ) → n ≤ 4 → P n
by_state P a b c d e zero h = a
by_state P a b c d e (suc zero) h = b
by_state P a b c d e (suc (suc zero)) h = c
by_state P a b c d e (suc (suc (suc zero))) h = d
by_state P a b c d e (suc (suc (suc (suc zero)))) h = e
by_state P a b c d e (suc (suc (suc (suc (suc n))))) h = absurd (omega arith)

pub used-one : (k : Channel) → k.state ≤ 4 → one_if_ended k + one_if_active k ≡ one_if_used k
used-one k h = by_state (λ n. cond (eqb n 4) 1 0 + cond (ltb 0 n && ltb n 4) 1 0 ≡ cond (eqb n 0) 0 1) refl refl refl refl refl k.state h

pub used-sum : (ks : List Channel) → ((c : ℕ) → c < length ks → (get_or ks c blank).state ≤ 4) → sum one_if_ended ks + sum one_if_active ks ≡ sum one_if_used ks
unfolding sum
used-sum [] h = refl
used-sum (k ∷ ks) h = omega (arith, used-one k (h 0 (omega arith)), used-sum ks (λ c g. h (suc c) (omega arith)))

pub used-within : (t : Transfer) → CountSays t → 0 < t.count → used_of t ≤ t.count
used-within t (inl z) n = absurd (omega arith)
used-within t (inr q) n = omega (arith, q.2)
