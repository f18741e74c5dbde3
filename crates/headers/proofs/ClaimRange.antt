-- A range claimed: what the judgements answer is its fault, and what is put into the ledgers is the range.
use Prim.Native.Nat.{ℕ, ◌*◌, ◌<◌}
use mathlib.Core.Path.{◌≡◌, refl, sym, ap, ◌∙◌}
use mathlib.Core.Bool.{Bool, true, false, cond, ◌&&◌, ◌||◌, or-false, and-eq-true_iff}
use mathlib.Core.List.{List}
use native.Mathlib.Omega.{arith}
use borrow.Author.Tests.{le-ltb, eqb-true}
use lib.Dec.{eqb}
use lib.ListN.{length}
use Rattle.std.specs.Prelude.{Result, Ok}
use Rattle.answers.specs.Refusal.{number_in}
use Rattle.ledger.specs.Pairs.{Pairs, size, join, overlaps, all_inside}
use Rattle.ledger.specs.Ledger.{obeys, pairs_of, capacity}
use Rattle.ledger.proofs.PairsNested.{nested-apart}
use Rattle.claims.specs.declared.claim.Slot.{Slot}
use Rattle.claims.specs.Claim.{judged, JudgeResult, PutResult}
use Rattle.claims.proofs.ClaimLaws.{claim-laws}
use Rattle.transfer.specs.Header.{lacks_pairs, claim_fault}
use Rattle.transfer.specs.Fit.{doubtful_fits}
use Rattle.transfer.specs.Receive.{with_range}
use Rattle.transfer.proofs.FitByChannel.{ruled}
use Rattle.headers.specs.ClaimRange.{ClaimResult}
use Rattle.headers.proofs.ClaimNumber.{claim_number_is}

-- ---- the fault by the pairs: ps are claimed, ds are doubtful

module _ (R s e : ℕ) (ps ds : Pairs) where
  -- the fault of a range, doubtful or not, is that of one that is not, where that has one
  same-fault : (doubt : Bool) → 0 < claim_fault R ps ds s e false → claim_fault R ps ds s e false ≡ claim_fault R ps ds s e doubt
  unfolding claim_fault
  same-fault doubt = go (overlaps s e ps) (lacks_pairs R s e ps) (doubt && lacks_pairs R s e ds)
    where
      go : (u v x : Bool) → 0 < cond u 17 (cond (v || false) 18 0) → ◌≡◌ {A = ℕ} (cond u 17 (cond (v || false) 18 0)) (cond u 17 (cond (v || x) 18 0))
      go true v x k = refl
      go false true x k = refl
      go false false x k = absurd (omega arith)

  -- a doubtful range with a slot among the claimed ones, and apart from the doubtful ones: its fault is by the doubtful pairs alone
  module _ (slot : Slot) (q : judged R s e ps ≡ Ok slot) (apart : overlaps s e ps ≡ false → overlaps s e ds ≡ false) where
    no_fault : number_in (judged R s e ps) ≡ 0
    no_fault = rw q

    shares-none : overlaps s e ps ≡ false
    shares-none = ((claim-laws.number_0 R s e ps).0 no_fault).0

    enough : lacks_pairs R s e ps ≡ false
    unfolding lacks_pairs
    enough = le-ltb R (size (join s e ps)) ((claim-laws.number_0 R s e ps).0 no_fault).1

    fault_is : claim_fault R ps ds s e true ≡ cond (lacks_pairs R s e ds) 18 0
    unfolding claim_fault
    fault_is = rw (shares-none, enough)

    number_is : number_in (judged R s e ds) ≡ cond (lacks_pairs R s e ds) 18 0
    unfolding claim_fault
    number_is = claim_number_is R ds ps s e ∙ rw (apart shares-none, or-false (lacks_pairs R s e ds))

    same-number : number_in (judged R s e ds) ≡ claim_fault R ps ds s e true
    same-number = number_is ∙ sym fault_is

-- ---- a ledger l by the rule, of R pairs

module _ (R s e : ℕ) (h : s < e) (l : List ℕ) (o : obeys l ≡ true) (n : length l ≡ 2 * R) where
  room-is : capacity l ≡ R
  room-is = omega arith

  pub answer_is : (x : Result Slot ℕ) → JudgeResult s e l x → judged R s e (pairs_of l) ≡ x
  answer_is x j = rw (sym room-is) (sym (j.by_rule o h))

  put_is : (slot : Slot) (m : List ℕ) → judged R s e (pairs_of l) ≡ Ok slot → PutResult slot s e l m → m ≡ with_range R s e l
  unfolding with_range
  put_is slot m q p = rw (sym room-is) (p.by_rule o h (rw room-is q))

-- ---- the claimed ledger l and the doubtful one d

module _ (R s e : ℕ) (h : s < e) (l d : List ℕ) (o : obeys l ≡ true) (n : length l ≡ 2 * R) where
  -- a fault changes neither
  refused : (doubt : Bool) (k : ℕ) → 0 < k → k ≡ claim_fault R (pairs_of l) (pairs_of d) s e doubt → ClaimResult R s e doubt l d k l d
  refused doubt k g q =
      record {
        fault_is = q;
        unchanged = λ z. (refl, refl);
        claimed = λ z. absurd (omega arith);
        doubted = λ z. absurd (omega arith);
      }

  -- no fault: the range is put at its slot
  accepted : (doubt : Bool) (slot : Slot) (m x : List ℕ) → judged R s e (pairs_of l) ≡ Ok slot → PutResult slot s e l m
      → 0 ≡ claim_fault R (pairs_of l) (pairs_of d) s e doubt → x ≡ cond doubt (with_range R s e d) d → ClaimResult R s e doubt l d 0 m x
  accepted doubt slot m x q p z i =
      record {
        fault_is = z;
        unchanged = λ k. absurd (omega arith);
        claimed = λ k. put_is R s e h l o n slot m q p;
        doubted = λ k. i;
      }

  -- the claimed ledger has no slot
  pub claimed-refuses : (doubt : Bool) (x : Result Slot ℕ) (k : ℕ) → JudgeResult s e l x → 0 < k → k ≡ number_in x → ClaimResult R s e doubt l d k l d
  claimed-refuses doubt x k j g q =
      let i : claim_fault R (pairs_of l) (pairs_of d) s e false ≡ k = sym (claim_number_is R (pairs_of l) (pairs_of d) s e) ∙ rw (answer_is R s e h l o n x j) (sym q) in
      refused doubt k g (sym i ∙ same-fault R s e (pairs_of l) (pairs_of d) doubt (omega (arith, i, g)))

  -- it has one, and the range is not doubtful
  pub claimed-alone : (slot : Slot) (m : List ℕ) → judged R s e (pairs_of l) ≡ Ok slot → PutResult slot s e l m → ClaimResult R s e false l d 0 m d
  claimed-alone slot m q p = accepted false slot m d q p (sym (rw q) ∙ claim_number_is R (pairs_of l) (pairs_of d) s e) refl

  -- it has one, and the range is doubtful
  module _ (f : doubtful_fits R l d ≡ true) (slot : Slot) (q : judged R s e (pairs_of l) ≡ Ok slot) (x : Result Slot ℕ) (j : JudgeResult s e d x) where
    parts : (length d ≡ 2 * R) × (obeys d ≡ true) × (all_inside (pairs_of d) (pairs_of l) ≡ true)
    unfolding doubtful_fits
    parts =
        let a = (and-eq-true_iff (eqb (length d) (2 * R)) (obeys d && all_inside (pairs_of d) (pairs_of l))).0 f in
        let b = (and-eq-true_iff (obeys d) (all_inside (pairs_of d) (pairs_of l))).0 a.1 in
        (eqb-true (length d) (2 * R) a.0, b.0, b.1)

    apart : overlaps s e (pairs_of l) ≡ false → overlaps s e (pairs_of d) ≡ false
    apart = nested-apart s e (pairs_of d) (pairs_of l) h (ruled d parts.1) parts.2

    doubtful-answer : judged R s e (pairs_of d) ≡ x
    doubtful-answer = answer_is R s e h d parts.1 parts.0 x j

    -- the doubtful ledger has no slot: 18, as the range is apart from the doubtful ones
    pub doubtful-refuses : (k : ℕ) → 0 < k → k ≡ number_in x → ClaimResult R s e true l d k l d
    doubtful-refuses k g z = refused true k g (z ∙ ap number_in (sym doubtful-answer) ∙ same-number R s e (pairs_of l) (pairs_of d) slot q apart)

    pub claimed-in-both : (other : Slot) (m y : List ℕ) → x ≡ Ok other → PutResult slot s e l m → PutResult other s e d y → ClaimResult R s e true l d 0 m y
    claimed-in-both other m y i p r =
        let g = doubtful-answer ∙ i in
        let z : number_in (judged R s e (pairs_of d)) ≡ 0 = rw g in
        accepted true slot m y q p (sym z ∙ same-number R s e (pairs_of l) (pairs_of d) slot q apart) (put_is R s e h d parts.1 parts.0 other y g r)
