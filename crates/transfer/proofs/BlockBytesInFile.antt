-- Payload bytes in the file: where a list of blocks has one, where it has none, and that neither blocks nor bytes are lost as blocks grow.
use Prim.Native.Nat.{ℕ, zero, suc, ◌+◌, ◌-◌, ◌≤◌, ◌<◌}
use mathlib.Core.Path.{◌≡◌, refl, sym, ◌∙◌, subst}
use mathlib.Core.Logic.{◌⊎◌, inl, inr, ⊎_elim}
use mathlib.Core.Bool.{true, and-eq-true_iff}
use mathlib.Core.List.{List, [], ◌∷◌, ◌++◌}
use native.Mathlib.Omega.{arith}
use borrow.Author.Tests.{leb-true}
use lib.Dec.{leb}
use lib.ListN.{length, get_or, set, length-set, length-append, get_or-append}
use lib.Seq.{sets, get_or-set_same, get_or-set_other}
use Rattle.ledger.specs.Pairs.{Pairs, none, pair, contains, ends_at_most}
use Rattle.ledger.proofs.PairsPlaces.{in_range-in, Where, under, within, past, stand}
use Rattle.transfer.specs.Transfer.{sum}
use Rattle.transfer.specs.Block.{Block, place_of, size_of, with_payloads, bytes_in}
use Rattle.transfer.specs.AfterList.{HasByte}
use Rattle.transfer.proofs.BlockClaims.{sum-append, cover}
use Rattle.transfer.proofs.BlockPayloads.{length-with_payloads, Bodies, longer}
use Rattle.transfer.proofs.TallyInvariant.{Grows, stays, opens_block, adds_byte}
use Rattle.transfer.proofs.TallyCalls.{Grown, not_yet, once_more}

-- ---- a run of stores

sets-other : (f : List ℕ) (o : ℕ) (vs : List ℕ) (q : ℕ) → (q < o) ⊎ (o + length vs ≤ q) → get_or (sets f o vs) q 0 ≡ get_or f q 0
sets-other f o [] q h = refl
sets-other f o (a ∷ vs) q h =
    sets-other (set f o a) (suc o) vs q (⊎_elim (λ (y : q < o). inl (omega arith)) (λ (y : o + suc (length vs) ≤ q). inr (omega arith)) h)
    ∙ get_or-set_other f o q a 0 (λ e. ⊎_elim (λ (y : q < o). omega arith) (λ (y : o + suc (length vs) ≤ q). omega arith) h)

sets-at : (f : List ℕ) (o : ℕ) (vs : List ℕ) (i : ℕ) → i < length vs → o + i < length f → get_or (sets f o vs) (o + i) 0 ≡ get_or vs i 0
sets-at f o [] i h k = absurd (omega arith)
sets-at f o (a ∷ vs) zero h k =
    let e : o + 0 ≡ o = omega arith in
    rw e (sets-other (set f o a) (suc o) vs o (inl (omega arith)) ∙ get_or-set_same f o a 0 (omega arith))
sets-at f o (a ∷ vs) (suc i) h k =
    let e : o + suc i ≡ suc o + i = omega arith in
    rw e (sets-at (set f o a) (suc o) vs i (omega arith) (omega (arith, length-set f o a)))

-- ---- the file of a list of blocks

pub has-cover : (p v : ℕ) (xs : List Block) → Bodies xs → HasByte p v xs → 0 < cover p xs
unfolding sum
has-cover p v [] b h = absurd h
has-cover p v (x ∷ xs) b (inl h) = omega (arith, in_range-in (place_of x) (place_of x + size_of x) p (omega (arith, h.2)) (omega (arith, h.1, h.2, b.0)))
has-cover p v (x ∷ xs) b (inr h) = omega (arith, has-cover p v xs b.1 h)

pub has-with_payloads : (p v : ℕ) (xs : List Block) (f : List ℕ) → Bodies xs → cover p xs ≤ 1 → p < length f → HasByte p v xs → get_or (with_payloads xs f) p 0 ≡ v
unfolding with_payloads sum
has-with_payloads p v [] f b c k h = absurd h
has-with_payloads p v (x ∷ xs) f b c k (inl h) =
    rw h.2 (sets-at (with_payloads xs f) (place_of x) x.body h.0 h.1 (omega (arith, h.2, length-with_payloads xs f))) ∙ sym h.3
has-with_payloads p v (x ∷ xs) f b c k (inr h) =
    sets-other (with_payloads xs f) (place_of x) x.body p (go (stand (place_of x) (place_of x + size_of x) p)) ∙ has-with_payloads p v xs f b.1 (omega arith) k h
  where
    go : Where (place_of x) (place_of x + size_of x) p → (p < place_of x) ⊎ (place_of x + length x.body ≤ p)
    go (under y z) = inl y
    go (within y z w) = absurd (omega (arith, has-cover p v xs b.1 h))
    go (past y z w) = inr (omega (arith, b.0))

pub none-with_payloads : (p : ℕ) (xs : List Block) (f : List ℕ) → ((v : ℕ) → HasByte p v xs → ⊥) → get_or (with_payloads xs f) p 0 ≡ get_or f p 0
unfolding with_payloads
none-with_payloads p [] f h = refl
none-with_payloads p (x ∷ xs) f h =
    sets-other (with_payloads xs f) (place_of x) x.body p (go (stand (place_of x) (place_of x + length x.body) p)) ∙ none-with_payloads p xs f (λ v y. h v (inr y))
  where
    go : Where (place_of x) (place_of x + length x.body) p → (p < place_of x) ⊎ (place_of x + length x.body ≤ p)
    go (under y z) = inl y
    go (within y z w) = absurd (h (get_or x.body (p - place_of x) 0) (inl (p - place_of x, omega arith, omega arith, refl)))
    go (past y z w) = inr z

-- a place held lies below every bound of the pairs
pub holds-below-end : (F p : ℕ) (ps : Pairs) → ends_at_most F ps ≡ true → 0 < contains p ps → p < F
unfolding ends_at_most contains
holds-below-end F p none e h = absurd (omega arith)
holds-below-end F p (pair a b ps) e h =
    let q = (and-eq-true_iff (leb b F) (ends_at_most F ps)).0 e in
    go (stand a b p) (leb-true b F q.0) (λ k. holds-below-end F p ps q.1 k)
  where
    go : Where a b p → b ≤ F → (0 < contains p ps → p < F) → p < F
    go (under w z) l i = i (omega arith)
    go (within w u z) l i = omega arith
    go (past w u z) l i = i (omega arith)

-- ---- growing

has-insert : (a : List Block) (x : Block) (b : List Block) (p v : ℕ) → HasByte p v (a ++ b) → HasByte p v (a ++ x ∷ b)
has-insert [] x b p v h = inr h
has-insert (y ∷ a) x b p v (inl h) = inl h
has-insert (y ∷ a) x b p v (inr h) = inr (has-insert a x b p v h)

has-longer : (a : List Block) (x : Block) (b : List Block) (d p v : ℕ) → HasByte p v (a ++ x ∷ b) → HasByte p v (a ++ longer x d ∷ b)
has-longer [] x b d p v (inl h) =
    inl (h.0, omega (arith, h.1, length-append x.body (d ∷ [])), h.2, h.3 ∙ sym (get_or-append x.body (d ∷ []) 0 h.0 h.1))
has-longer [] x b d p v (inr h) = inr h
has-longer (y ∷ a) x b d p v (inl h) = inl h
has-longer (y ∷ a) x b d p v (inr h) = inr (has-longer a x b d p v h)

grows-has : (a b : List Block) (p v : ℕ) → Grows a b → HasByte p v a → HasByte p v b
grows-has a b p v (stays e) h = subst (HasByte p v) (sym e) h
grows-has a b p v (opens_block front x back e g) h = subst (HasByte p v) (sym g) (has-insert front x back p v (subst (HasByte p v) e h))
grows-has a b p v (adds_byte front x back y e g) h = subst (HasByte p v) (sym g) (has-longer front x back y p v (subst (HasByte p v) e h))

pub grown-has : (a b : List Block) (p v : ℕ) → Grown a b → HasByte p v a → HasByte p v b
grown-has a b p v (not_yet x) h = h
grown-has a b p v (once_more x y z g r) h = grown-has y b p v r (grows-has a y p v g h)

abbrev body_length : Block → ℕ
body_length x = length x.body

grows-bytes : (a b : List Block) → Grows a b → bytes_in a ≤ bytes_in b
unfolding sum
grows-bytes a b (stays e) = rw e (omega arith)
grows-bytes a b (opens_block front x back e g) = rw (e, g) (omega (arith, sum-append body_length front back, sum-append body_length front (x ∷ back)))
grows-bytes a b (adds_byte front x back y e g) =
    rw (e, g) (omega (arith, sum-append body_length front (x ∷ back), sum-append body_length front (longer x y ∷ back), length-append x.body (y ∷ [])))

pub grown-bytes : (a b : List Block) → Grown a b → bytes_in a ≤ bytes_in b
grown-bytes a b (not_yet x) = omega arith
grown-bytes a b (once_more x y z g r) = omega (arith, grows-bytes a y g, grown-bytes y b r)
