-- The descriptor rule, computed over all 256 values.
use Rattle.std.specs.Prelude.{ℕ, zero, suc, ◌≡◌, Bool, cond, not, ◌&&◌, ◌||◌, List, [], ◌∷◌, ◌++◌, eqb}
use Rattle.eblock.specs.Descriptor.{has, eodc, end_of_data, fault_of}

-- the numbers below n that pass the test, ascending
unfoldable pub filter_below : (ℕ → Bool) → ℕ → List ℕ
filter_below p zero = []
filter_below p (suc n) = filter_below p n ++ cond (p n) (n ∷ []) []

-- the descriptors with that fault, 0 being none
unfoldable pub with_fault : ℕ → List ℕ
with_fault k = filter_below (λ d. eqb (fault_of d) k) 256

pub record Table : Type 0 where
  pub accepted : with_fault 0 ≡ 0 ∷ 8 ∷ 12 ∷ 32 ∷ 40 ∷ 44 ∷ 64 ∷ 72 ∷ 76 ∷ []
  -- any with bit 1 or 2
  pub eleven : with_fault 11 ≡ filter_below (λ d. has 1 d || has 2 d) 256
  -- of the rest, any with bit 128 or 16
  pub twelve : with_fault 12 ≡ filter_below (λ d. not (has 1 d || has 2 d) && (has 128 d || has 16 d)) 256
  -- the other seven
  pub thirteen : with_fault 13 ≡ 4 ∷ 36 ∷ 68 ∷ 96 ∷ 100 ∷ 104 ∷ 108 ∷ []
  -- of the accepted ones, those that give a count, and those that end their channel
  pub counts : filter_below (λ d. eqb (fault_of d) 0 && has eodc d) 256 ≡ 64 ∷ 72 ∷ 76 ∷ []
  pub ends : filter_below (λ d. eqb (fault_of d) 0 && has end_of_data d) 256 ≡ 8 ∷ 12 ∷ 40 ∷ 44 ∷ 72 ∷ 76 ∷ []
