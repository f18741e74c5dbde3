-- The descriptor rule over all 256 values, by computation, and which fault numbers there are.
use Prim.Native.Nat.{ℕ, ◌≤◌}
use mathlib.Core.Path.{◌≡◌, refl}
use mathlib.Core.Logic.{◌⊎◌, inl, inr}
use mathlib.Core.Bool.{Bool, true, false, cond, ◌||◌}
use native.Mathlib.Omega.{arith}
use Rattle.eblock.specs.Descriptor.{has, end_of_record, restart_marker, closes_early, suspects_count, fault_of}
use Rattle.eblock.specs.Table.{filter_below, with_fault, Table}

pub table : Table
unfolding filter_below with_fault fault_of has
table = record { accepted = refl; eleven = refl; twelve = refl; thirteen = refl; counts = refl; ends = refl }

either : (t : Bool) (a b : ℕ) → (P : ℕ → Type 0) → P a → P b → P (cond t a b)
either true a b P x y = x
either false a b P x y = y

-- of any descriptor, a byte or not
pub fault-numbers : (d : ℕ) → (fault_of d ≡ 0) ⊎ ((11 ≤ fault_of d) × (fault_of d ≤ 13))
unfolding fault_of
fault-numbers d =
    let P : ℕ → Type 0 = λ k. (k ≡ 0) ⊎ ((11 ≤ k) × (k ≤ 13)) in
    either (has 1 d || has 2 d) 11 _ P (inr (omega arith, omega arith))
    (either (has end_of_record d || has restart_marker d) 12 _ P (inr (omega arith, omega arith))
    (either (closes_early d || suspects_count d) 13 0 P (inr (omega arith, omega arith)) (inl refl)))
