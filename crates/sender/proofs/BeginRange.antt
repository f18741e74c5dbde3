-- A beginning is accepted exactly where the channel count is 1 to 64 and the block size 1 to 65,536.
use Prim.Native.Nat.{ℕ, ◌<◌}
use mathlib.Core.Path.{◌≡◌}
use mathlib.Core.Logic.{inl, inr}
use mathlib.Core.Bool.{true, false, or-true}
use native.Mathlib.Omega.{arith}
use borrow.Author.Tests.{lt-ltb, le-ltb, eq-eqb, ne_eqb}
use Rattle.sender.specs.Blocks.{out_of_range}
use Rattle.sender.specs.Sender.{begin_refusal}
use Rattle.sender.specs.SenderRows.{InRange, Outside}

-- the test by its two cases
pub outside-is : (count size : ℕ) → Outside count size → out_of_range count size ≡ true
unfolding out_of_range
outside-is count size (inl (inl e)) = rw (eq-eqb count 0 e)
outside-is count size (inl (inr h)) = simp (lt-ltb 64 count h, or-true)
outside-is count size (inr (inl e)) = simp (eq-eqb size 0 e, or-true)
outside-is count size (inr (inr h)) = simp (lt-ltb 65536 size h, or-true)

pub within-range : (count size : ℕ) → InRange count size → out_of_range count size ≡ false
unfolding out_of_range
within-range count size r =
    simp (
      ne_eqb count 0 (λ e. omega (arith, r)),
      le-ltb 64 count (omega arith),
      ne_eqb size 0 (λ e. omega (arith, r)),
      le-ltb 65536 size (omega arith),
    )

-- the number of a beginning
pub refuses : (count size : ℕ) → Outside count size → begin_refusal count size ≡ 71
unfolding begin_refusal
refuses count size o = rw (outside-is count size o)

pub begins : (count size : ℕ) → InRange count size → begin_refusal count size ≡ 0
unfolding begin_refusal
begins count size r = rw (within-range count size r)

pub in-range : (count size : ℕ) → begin_refusal count size ≡ 0 → InRange count size
in-range count size e =
    let never : Outside count size → ⊥ = λ o. omega (arith, refuses count size o) in
    let a : count ≡ 0 → ⊥ = λ x. never (inl (inl x)) in
    let b : 64 < count → ⊥ = λ x. never (inl (inr x)) in
    let c : size ≡ 0 → ⊥ = λ x. never (inr (inl x)) in
    let d : 65536 < size → ⊥ = λ x. never (inr (inr x)) in
    ((omega arith, omega arith), (omega arith, omega arith))
