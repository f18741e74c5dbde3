-- The used pairs of a ledger, as the code holds them.
use Prim.Native.Nat.{ℕ, zero, suc, ◌+◌, ◌/◌, ◌≤◌, ◌<◌}
use mathlib.Core.Path.{◌≡◌, refl, sym, ap, ◌∙◌}
use mathlib.Core.Bool.{Bool, true, false, cond}
use mathlib.Core.List.{List, [], ◌∷◌}
use native.Mathlib.Omega.{arith}
use native.Mathlib.Numerals.{add-one}
use native.Mathlib.Decide.{dec_lt}
use borrow.Author.Tests.{lt-ltb, le-ltb, eqb-false}
use lib.Dec.{eqb, ltb}
use lib.ListN.{length, get_or, take, drop, drop_of_length-le}
use lib.Seq.{drop-cons, take_all, take-length}
use Rattle.std.specs.List.{position_or_len}
use Rattle.std.specs.Prelude.{Some, None, unwrap_or}
use Rattle.std.specs.Simd.{first_chunks}
use Rattle.ledger.specs.Pairs.{Pairs, none, pair, size}
use Rattle.ledger.specs.Ledger.{pairs_of}
use Rattle.rangelists.specs.RangeText.{pairs_in, IsUsed}

pub size-pairs_in : (ps : List (List ℕ)) → size (pairs_in ps) ≡ length ps
unfolding size pairs_in
size-pairs_in [] = refl
size-pairs_in (p ∷ ps) = ap suc (size-pairs_in ps)

module _ (ps : List (List ℕ)) (k : ℕ) where
  -- from a place on
  pub pairs_in-next : k < length ps → pairs_in (drop k ps) ≡ pair (get_or (get_or ps k []) 0 0) (get_or (get_or ps k []) 1 0) (pairs_in (drop (k + 1) ps))
  unfolding pairs_in
  pairs_in-next h = rw (add-one k, drop-cons ps k [])

  pub pairs_in-over : length ps ≤ k → pairs_in (drop k ps) ≡ none
  unfolding pairs_in
  pairs_in-over h = rw (drop_of_length-le ps h)

-- the test of a pair that is not used
abbrev pub is_unused : List ℕ → Bool
is_unused p = eqb (get_or p 1 0) 0

abbrev pub used_of : ℕ → List ℕ → List (List ℕ)
used_of k l = take (position_or_len is_unused (first_chunks 2 k l)) (first_chunks 2 k l)

-- where none is found, all are taken
pub take-found : (n : ℕ) (ps : List (List ℕ)) → take (unwrap_or (cond (ltb n (length ps)) (Some n) None) (length ps)) ps ≡ take n ps
take-found n ps = go (dec_lt n (length ps))
  where
    go : Dec (n < length ps) → take (unwrap_or (cond (ltb n (length ps)) (Some n) None) (length ps)) ps ≡ take n ps
    go (yes h) = rw (lt-ltb n (length ps) h) refl
    go (no h) =
        let m : length ps ≤ n = omega arith in
        rw (le-ltb n (length ps) m) (take-length ps ∙ sym (take_all n ps m))

no_pair : IsUsed [] none
unfolding pairs_in
no_pair = record { are = refl; ends = λ i h. absurd (omega arith) }

one_more : (a b : ℕ) (ps : List (List ℕ)) (qs : Pairs) → (b ≡ 0 → ⊥) → IsUsed ps qs → IsUsed ((a ∷ b ∷ []) ∷ ps) (pair a b qs)
unfolding pairs_in
one_more a b ps qs h u = record { are = rw u.are; ends = go }
  where
    go : (i : ℕ) → i < suc (length ps) → 0 < get_or (get_or ((a ∷ b ∷ []) ∷ ps) i []) 1 0
    go zero k = omega arith
    go (suc i) k = u.ends i (omega arith)

pub used_is : (k : ℕ) (l : List ℕ) → length l / 2 ≡ k → IsUsed (used_of k l) (pairs_of l)
unfolding pairs_of
used_is zero [] e = no_pair
used_is zero (a ∷ []) e = no_pair
used_is zero (a ∷ b ∷ rest) e = absurd (omega arith)
used_is (suc k) [] e = absurd (omega arith)
used_is (suc k) (a ∷ []) e = absurd (omega arith)
used_is (suc k) (a ∷ b ∷ rest) e = go (eqb b 0) refl (used_is k rest (omega arith))
  where
    go : (t : Bool) → eqb b 0 ≡ t → IsUsed (used_of k rest) (pairs_of rest) → IsUsed (used_of (suc k) (a ∷ b ∷ rest)) (cond t none (pair a b (pairs_of rest)))
    go true h u = rw h no_pair
    go false h u =
        let s : 1 + position_or_len is_unused (first_chunks 2 k rest) ≡ suc (position_or_len is_unused (first_chunks 2 k rest)) = omega arith in
        rw (h, s) (one_more a b _ _ (eqb-false b 0 h) u)
