-- A header's judgement by the transfer alone: every header has its case, and the answer is the only one; which fault numbers there are.
use Prim.Native.Nat.{ℕ, ◌+◌, ◌≤◌, ◌<◌}
use mathlib.Core.Path.{◌≡◌, refl}
use mathlib.Core.Logic.{◌⊎◌, inl, inr, ⊎_elim, ◌≢◌}
use mathlib.Core.Bool.{Bool, true, false, cond, ◌||◌, true≢false}
use mathlib.Core.List.{List}
use native.Mathlib.Omega.{arith}
use native.Mathlib.Decide.{dec_lt, ℕ_discrete}
use borrow.Author.Tests.{lt-ltb, le-ltb, eq-eqb, ne_eqb, ltb-true, ltb-false, eqb-true, eqb-false}
use lib.Dec.{ltb, eqb}
use Rattle.eblock.specs.Descriptor.{fault_of}
use Rattle.eblock.proofs.Table.{fault-numbers}
use Rattle.eblock.specs.Header.{count_limit, descriptor_of, second_of, third_of}
use Rattle.transfer.specs.Header.{is_eodc, is_doubtful, HeaderRequest, counts, claims, nothing, faulty, request_of}
use Rattle.transfer.specs.Judgement.{HeaderAsks, by_descriptor, by_14, by_15, for_count, for_nothing, by_16, for_claim}

-- none, or from 11 to 18
abbrev pub Numbered : ℕ → Type 0
Numbered k = (k ≡ 0) ⊎ ((11 ≤ k) × (k ≤ 18))

or-false : (a b : Bool) → (a || b) ≡ false → (a ≡ false) × (b ≡ false)
or-false true b e = absurd (true≢false e)
or-false false b e = (refl, e)

or-true : (a b : Bool) → (a || b) ≡ true → (a ≡ true) ⊎ (b ≡ true)
or-true true b e = inl refl
or-true false b e = inr e

module _ (F known used : ℕ) (h : List ℕ) where
  abbrev Says : HeaderRequest → Type 0
  Says a = HeaderAsks F known used h a

  outside : (eqb (third_of h) 0 || (ltb count_limit (third_of h) || ltb (third_of h) used)) ≡ true → (third_of h ≡ 0) ⊎ ((count_limit < third_of h) ⊎ (third_of h < used))
  outside e =
      ⊎_elim (λ (x : eqb (third_of h) 0 ≡ true). inl (eqb-true (third_of h) 0 x))
      (λ (x : (ltb count_limit (third_of h) || ltb (third_of h) used) ≡ true).
      inr (⊎_elim (λ (y : ltb count_limit (third_of h) ≡ true). inl (ltb-true count_limit (third_of h) y)) (λ (y : ltb (third_of h) used ≡ true). inr (ltb-true (third_of h) used y)) (or-true _ _ x)))
      (or-true _ _ e)

  count-asked : fault_of (descriptor_of h) ≡ 0 → is_eodc h ≡ true
      → Says (cond (ltb 0 known) (faulty 14) (cond (eqb (third_of h) 0 || (ltb count_limit (third_of h) || ltb (third_of h) used)) (faulty 15) (counts (third_of h))))
  count-asked d q = go (ltb 0 known) (eqb (third_of h) 0 || (ltb count_limit (third_of h) || ltb (third_of h) used)) refl refl
    where
      go : (u v : Bool) → ltb 0 known ≡ u → (eqb (third_of h) 0 || (ltb count_limit (third_of h) || ltb (third_of h) used)) ≡ v → Says (cond u (faulty 14) (cond v (faulty 15) (counts (third_of h))))
      go true v x y = by_14 d q (ltb-true 0 known x)
      go false true x y = by_15 d q (omega (arith, ltb-false 0 known x)) (outside y)
      go false false x y =
          let a = or-false _ _ y in
          let b = or-false _ _ a.1 in
          let n : third_of h ≢ 0 = eqb-false (third_of h) 0 a.0 in
          for_count d q (omega (arith, ltb-false 0 known x)) (omega arith) (ltb-false count_limit (third_of h) b.0) (ltb-false (third_of h) used b.1)

  range-asked : fault_of (descriptor_of h) ≡ 0 → is_eodc h ≡ false
      → Says (cond (eqb (second_of h) 0) nothing (cond (ltb F (third_of h + second_of h)) (faulty 16) (claims (third_of h) (third_of h + second_of h) (is_doubtful h))))
  range-asked d q = go (eqb (second_of h) 0) (ltb F (third_of h + second_of h)) refl refl
    where
      go : (u v : Bool) → eqb (second_of h) 0 ≡ u → ltb F (third_of h + second_of h) ≡ v
          → Says (cond u nothing (cond v (faulty 16) (claims (third_of h) (third_of h + second_of h) (is_doubtful h))))
      go true v x y = for_nothing d q (eqb-true (second_of h) 0 x)
      go false true x y = let n : second_of h ≢ 0 = eqb-false (second_of h) 0 x in by_16 d q (omega arith) (ltb-true F (third_of h + second_of h) y)
      go false false x y = let n : second_of h ≢ 0 = eqb-false (second_of h) 0 x in for_claim d q (omega arith) (ltb-false F (third_of h + second_of h) y)

  pub asked : Says (request_of F known used h)
  unfolding request_of
  asked = go (ltb 0 (fault_of (descriptor_of h))) (is_eodc h) refl refl
    where
      go : (u v : Bool) → ltb 0 (fault_of (descriptor_of h)) ≡ u → is_eodc h ≡ v
          → Says (cond u (faulty (fault_of (descriptor_of h)))
          (cond v
          (cond (ltb 0 known) (faulty 14) (cond (eqb (third_of h) 0 || (ltb count_limit (third_of h) || ltb (third_of h) used)) (faulty 15) (counts (third_of h))))
          (cond (eqb (second_of h) 0) nothing (cond (ltb F (third_of h + second_of h)) (faulty 16) (claims (third_of h) (third_of h + second_of h) (is_doubtful h))))))
      go true v x y = by_descriptor (ltb-true 0 (fault_of (descriptor_of h)) x)
      go false true x y = count-asked (omega (arith, ltb-false 0 (fault_of (descriptor_of h)) x)) y
      go false false x y = range-asked (omega (arith, ltb-false 0 (fault_of (descriptor_of h)) x)) y

  abbrev InRange : HeaderRequest → Type 0
  InRange (counts n) = Unit {0}
  InRange (claims s e doubt) = Unit {0}
  InRange nothing = Unit {0}
  InRange (faulty k) = (11 ≤ k) × (k ≤ 18)

  pub in-range : (a : HeaderRequest) → Says a → InRange a
  in-range _ (by_descriptor d) = go (fault-numbers (descriptor_of h))
    where
      go : (fault_of (descriptor_of h) ≡ 0) ⊎ ((11 ≤ fault_of (descriptor_of h)) × (fault_of (descriptor_of h) ≤ 13)) → (11 ≤ fault_of (descriptor_of h)) × (fault_of (descriptor_of h) ≤ 18)
      go (inl z) = absurd (omega (arith, d, z))
      go (inr z) = (z.0, omega (arith, z.1))
  in-range _ (by_14 d q k) = (omega arith, omega arith)
  in-range _ (by_15 d q k z) = (omega arith, omega arith)
  in-range _ (for_count d q k n₀ n₁ n₂) = tt
  in-range _ (for_nothing d q z) = tt
  in-range _ (by_16 d q l f) = (omega arith, omega arith)
  in-range _ (for_claim d q l f) = tt

  -- no other
  pub asked_only : (a : HeaderRequest) → Says a → a ≡ request_of F known used h
  unfolding request_of
  asked_only _ (by_descriptor d) = rw (lt-ltb 0 (fault_of (descriptor_of h)) d)
  asked_only _ (by_14 d q k) = rw (d, q, lt-ltb 0 known k)
  asked_only _ (by_15 d q k (inl z)) = rw (d, q, k, eq-eqb (third_of h) 0 z)
  asked_only _ (by_15 d q k (inr (inl z))) = rw (d, q, k, ne_eqb (third_of h) 0 (λ y. omega arith), lt-ltb count_limit (third_of h) z)
  asked_only _ (by_15 d q k (inr (inr z))) = rw (d, q, k) (third (ℕ_discrete (third_of h) 0) (dec_lt count_limit (third_of h)))
    where
      third : Dec (third_of h ≡ 0) → Dec (count_limit < third_of h)
          → faulty 15 ≡ cond (eqb (third_of h) 0 || (ltb count_limit (third_of h) || ltb (third_of h) used)) (faulty 15) (counts (third_of h))
      third (yes a) b = rw (eq-eqb (third_of h) 0 a)
      third (no a) (yes b) = rw (ne_eqb (third_of h) 0 a, lt-ltb count_limit (third_of h) b)
      third (no a) (no b) = rw (ne_eqb (third_of h) 0 a, le-ltb count_limit (third_of h) (omega arith), lt-ltb (third_of h) used z)
  asked_only _ (for_count d q k n₀ n₁ n₂) =
      rw (d, q, k, ne_eqb (third_of h) 0 (λ y. omega arith), le-ltb count_limit (third_of h) n₁, le-ltb (third_of h) used n₂)
  asked_only _ (for_nothing d q z) = rw (d, q, eq-eqb (second_of h) 0 z)
  asked_only _ (by_16 d q l f) = rw (d, q, ne_eqb (second_of h) 0 (λ y. omega arith), lt-ltb F (third_of h + second_of h) f)
  asked_only _ (for_claim d q l f) = rw (d, q, ne_eqb (second_of h) 0 (λ y. omega arith), le-ltb F (third_of h + second_of h) f)
