-- A list with an odd number of entries breaks the ledger rule, whatever it holds.
use Prim.Native.Nat.{ℕ, suc, ◌%◌}
use mathlib.Core.Path.{◌≡◌, refl, sym, ◌∙◌}
use mathlib.Core.Logic.{◌≢◌}
use mathlib.Core.Bool.{Bool, true, false, cond, ◌&&◌, and-false, false≢true}
use mathlib.Core.List.{List, [], ◌∷◌}
use native.Mathlib.Omega.{arith}
use native.Mathlib.Decide.{ℕ_discrete}
use borrow.Author.Tests.{ne_eqb}
use lib.Dec.{leb, ltb, eqb}
use lib.ListN.{length}
use Rattle.ledger.specs.Ledger.{all_zero, obeys_from, obeys}

rule-odd : (lo : ℕ) (l : List ℕ) → length l % 2 ≢ 0 → obeys_from lo l ≡ false
unfolding obeys_from
rule-odd lo [] n = absurd (n refl)
rule-odd lo (a ∷ []) n = refl
rule-odd lo (a ∷ b ∷ rest) n = go (eqb b 0) (rule-odd (suc b) rest odd)
  where
    odd : length rest % 2 ≢ 0
    odd q = n (omega arith)

    go : (t : Bool) → obeys_from (suc b) rest ≡ false
        → cond t (eqb a 0 && (all_zero rest && eqb (length rest % 2) 0)) (leb lo a && (ltb a b && obeys_from (suc b) rest)) ≡ false
    go true i = rw (ne_eqb (length rest % 2) 0 odd, and-false (all_zero rest)) (and-false (eqb a 0))
    go false i = rw (i, and-false (ltb a b)) (and-false (leb lo a))

pub odd_breaks : (l : List ℕ) → length l % 2 ≢ 0 → obeys l ≡ false
unfolding obeys
odd_breaks l n = rule-odd 0 l n

pub obeys-even : (l : List ℕ) → obeys l ≡ true → length l % 2 ≡ 0
obeys-even l o = go (ℕ_discrete (length l % 2) 0)
  where
    go : Dec (length l % 2 ≡ 0) → length l % 2 ≡ 0
    go (yes e) = e
    go (no n) = absurd (false≢true (sym (odd_breaks l n) ∙ o))
