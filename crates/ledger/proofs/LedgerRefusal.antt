-- The number by which a ledger that is to be written is refused, case by case.
use Prim.Native.Nat.{ℕ}
use mathlib.Core.Path.{◌≡◌, refl}
use mathlib.Core.Bool.{Bool, true, false}
use mathlib.Core.List.{List}
use native.Mathlib.Omega.{arith}
use Rattle.ledger.specs.Ledger.{length_wrong, obeys, ledger_refusal}

module _ (l : List ℕ) where
  pub refusal-53 : length_wrong l ≡ true → ledger_refusal l ≡ 53
  unfolding ledger_refusal
  refusal-53 w = rw w

  module _ (w : length_wrong l ≡ false) where
    pub refusal-1 : obeys l ≡ false → ledger_refusal l ≡ 1
    unfolding ledger_refusal
    refusal-1 o = rw (w, o)

    pub refusal-none : obeys l ≡ true → ledger_refusal l ≡ 0
    unfolding ledger_refusal
    refusal-none o = rw (w, o)

  -- what was tested of a ledger that is accepted
  pub refusal-zero : ledger_refusal l ≡ 0 → (length_wrong l ≡ false) × (obeys l ≡ true)
  refusal-zero z = go (length_wrong l) (obeys l) refl refl
    where
      go : (w o : Bool) → length_wrong l ≡ w → obeys l ≡ o → (length_wrong l ≡ false) × (obeys l ≡ true)
      go false true w o = (w, o)
      go false false w o = absurd (omega (arith, refusal-1 w o))
      go true o₂ w o = absurd (omega (arith, refusal-53 w))
