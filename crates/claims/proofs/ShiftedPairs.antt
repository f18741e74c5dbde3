-- The two changes of a ledger in its lent form: a pair of its own put between others, and pairs widened to one.
use Prim.Native.Nat.{ℕ, suc, ◌+◌, ◌*◌, ◌-◌, ◌≤◌, ◌<◌}
use mathlib.Core.Path.{◌≡◌, refl, sym, ap, ◌∙◌}
use mathlib.Core.List.{List, [], ◌∷◌, ◌++◌, append_assoc}
use native.Mathlib.Omega.{arith}
use native.Mathlib.Nat.{le_refl}
use native.Mathlib.Numerals.{add-one}
use lib.ListN.{length, set, take, drop, replicate, length-append, length-take, length-drop, replicate-append-replicate}
use lib.Seq.{take-append-le, drop-append-le, take_at, drop_at, drop-set-lt, sets-eq, drop-drop}
use Rattle.ledger.specs.Pairs.{Pairs, pair, size}
use Rattle.ledger.specs.Ledger.{laid_out}
use Rattle.claims.specs.Shift.{inserted, closed}
use Rattle.ledger.proofs.LedgerLayout.{length-laid_out}
use Rattle.ledger.proofs.PairsJoinSlot.{rest, splice}
use Rattle.ledger.proofs.PairsAsNumbers.{flat, length-flat, laid_out-flat, flat-rest, flat-splice, size-rest, size-splice}

-- the zeros after the used pairs
abbrev zeros_behind : ℕ → Pairs → List ℕ
zeros_behind r ps = replicate (2 * (r - size ps)) 0

module _ (r : ℕ) (ps : Pairs) (h : size ps ≤ r) where
  -- the lent form, up to and from an even place
  take-lent : (k : ℕ) → k ≤ size ps → take (2 * k) (laid_out r ps) ≡ take (2 * k) (flat ps)
  take-lent k g =
      rw (laid_out-flat r ps h) (take-append-le (2 * k) (flat ps) (zeros_behind r ps) (omega (arith, length-flat ps)))

  drop-lent : (k : ℕ) → k ≤ size ps → drop (2 * k) (laid_out r ps) ≡ drop (2 * k) (flat ps) ++ zeros_behind r ps
  drop-lent k g =
      rw (laid_out-flat r ps h) (drop-append-le (2 * k) (flat ps) (zeros_behind r ps) (omega (arith, length-flat ps)))

  used-lent : (k : ℕ) → k ≤ size ps → take (2 * size ps - 2 * k) (drop (2 * k) (laid_out r ps)) ≡ drop (2 * k) (flat ps)
  used-lent k g =
      let n : length (drop (2 * k) (flat ps)) ≡ 2 * size ps - 2 * k = simp (length-drop, length-flat) refl in
      rw (drop-lent k g) (take_at (drop (2 * k) (flat ps)) (zeros_behind r ps) (2 * size ps - 2 * k) n)

  zeros-laid_out : drop (2 * size ps) (laid_out r ps) ≡ zeros_behind r ps
  zeros-laid_out = rw (laid_out-flat r ps h) (drop_at (flat ps) (zeros_behind r ps) (2 * size ps) (length-flat ps))

  -- the ledger with the first k pairs, a new one, and the pairs from m on
  lent-splice : (k m a b : ℕ) → k ≤ m → m ≤ size ps → k + suc (size ps - m) ≤ r
      → laid_out r (splice k ps (pair a b (rest m ps)))
      ≡ take (2 * k) (flat ps) ++ (a ∷ b ∷ (drop (2 * m) (flat ps) ++ replicate (2 * (r - (k + suc (size ps - m)))) 0))
  unfolding flat size
  lent-splice k m a b g f j =
      let new = pair a b (rest m ps) in
      let z : size (splice k ps new) ≡ k + suc (size ps - m) = size-splice k ps new (omega arith) ∙ rw (size-rest m ps) in
      laid_out-flat r (splice k ps new) (omega (arith, z))
      ∙ rw (z, flat-splice k ps new (omega arith), flat-rest m ps)
      (append_assoc (take (2 * k) (flat ps)) (a ∷ b ∷ drop (2 * m) (flat ps)) (replicate (2 * (r - (k + suc (size ps - m)))) 0))

  pub insert-lent : (k a b : ℕ) → k ≤ size ps → size ps < r → inserted (laid_out r ps) (2 * k) (2 * size ps) a b ≡ laid_out r (splice k ps (pair a b (rest k ps)))
  unfolding inserted
  insert-lent k a b g f =
      let q : 2 * (r - size ps) ≡ suc (suc (2 * (r - (k + suc (size ps - k))))) = omega arith in
      let d : drop (2 * size ps + 2) (laid_out r ps) ≡ replicate (2 * (r - (k + suc (size ps - k)))) 0 =
      sym (drop-drop 2 (2 * size ps) (laid_out r ps)) ∙ ap (drop 2) zeros-laid_out ∙ rw q in
      rw (take-lent k g, used-lent k g, d) (sym (lent-splice k k a b (le_refl k) g (omega arith)))

  pub close-lent : (k m a b : ℕ) → k < m → m ≤ size ps
      → closed (set (set (laid_out r ps) (2 * k) a) (2 * k + 1) b) (2 * k + 2) (2 * m) (2 * size ps) ≡ laid_out r (splice k ps (pair a b (rest m ps)))
  unfolding closed
  close-lent k m a b g f =
      let l = laid_out r ps in
      let n : length l ≡ 2 * r = length-laid_out r ps in
      let t : take (2 * k + 2) (set (set l (2 * k) a) (2 * k + 1) b) ≡ take (2 * k) (flat ps) ++ (a ∷ b ∷ []) =
      rw (add-one (2 * k)) (ap (take (2 * k + 2)) (sets-eq (a ∷ b ∷ []) l (2 * k) (omega arith))
      ∙ take_at (take (2 * k) l ++ (a ∷ b ∷ [])) (drop (2 * k + 2) l) (2 * k + 2) (simp (length-append, length-take) (omega arith))
      ∙ rw (take-lent k (omega arith))) in
      let d : (i : ℕ) → 2 * k + 2 ≤ i → drop i (set (set l (2 * k) a) (2 * k + 1) b) ≡ drop i l =
      λ i u. drop-set-lt i (set l (2 * k) a) (2 * k + 1) b (omega arith) ∙ drop-set-lt i l (2 * k) a (omega arith) in
      let c : 2 * m - (2 * k + 2) + 2 * (r - size ps) ≡ 2 * (r - (k + suc (size ps - m))) = omega arith in
      rw (t, d (2 * m) (omega arith), d (2 * size ps) (omega arith), used-lent m f, zeros-laid_out, replicate-append-replicate, c)
      (append_assoc (take (2 * k) (flat ps)) (a ∷ b ∷ []) (drop (2 * m) (flat ps) ++ replicate (2 * (r - (k + suc (size ps - m)))) 0)
      ∙ sym (lent-splice k m a b (omega arith) f (omega arith)))
