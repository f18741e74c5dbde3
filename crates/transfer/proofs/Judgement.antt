-- A header's judgement: the ledgers' part, and the whole statement.
use Prim.Native.Nat.{ℕ, ◌+◌, ◌≤◌, ◌<◌}
use mathlib.Core.Path.{◌≡◌, refl, sym, ap, ◌∙◌}
use mathlib.Core.Logic.{inl, inr}
use mathlib.Core.List.{List}
use mathlib.Core.Bool.{Bool, true, false, cond, ◌&&◌, ◌||◌, or-true, true≢false}
use native.Mathlib.Omega.{arith}
use native.Mathlib.Decide.{ℕ_discrete}
use borrow.Author.Tests.{lt-ltb, le-ltb, ltb-true, ltb-false}
use lib.Dec.{ltb}
use Rattle.ledger.specs.Pairs.{Pairs, none, pair, size, in_range, contains, ObeyFrom, join, overlaps}
use Rattle.ledger.proofs.PairsPlaces.{in_range-in, Where, under, within, past, stand, holds-le}
use Rattle.ledger.proofs.PairsJoin.{join-holds, join-ruled}
use Rattle.ledger.proofs.PairsUnique.{ruled-unique}
use Rattle.ledger.proofs.PairsOverlap.{shares-none, none-shares, shares-some}
use Rattle.eblock.specs.Descriptor.{has, fault_of}
use Rattle.eblock.specs.Header.{count_limit, descriptor_of, second_of, third_of}
use Rattle.transfer.specs.Header.{is_eodc, is_doubtful, payload_length, HeaderRequest, counts, claims, nothing, request_of, lacks_pairs, claim_fault}
use Rattle.transfer.specs.Judgement.{HeaderAsks, for_count, for_nothing, for_claim, Union, Lacks, Suffices, Unclaimed, ClaimJudged, by_17, by_18, is_claimed, Judgement}
use Rattle.transfer.specs.Tally.{request_fault}
use Rattle.transfer.proofs.JudgementByTransfer.{Numbered, asked, asked_only}

-- one ledger

module _ (s e : ℕ) (h : s < e) (ps : Pairs) (ruled : ObeyFrom 0 ps) where
  pub joined : Union s e ps (join s e ps)
  joined = record { ruled = join-ruled s e 0 ps h (omega arith) ruled; places = λ p. join-holds s e 0 p ps h ruled }

  pub union-is : (m : Pairs) → Union s e ps m → m ≡ join s e ps
  union-is m u = ruled-unique 0 m (join s e ps) u.ruled joined.ruled (λ p. u.places p ∙ sym (joined.places p))

  free : overlaps s e ps ≡ false → Unclaimed s e ps
  free q p a b = omega (arith, shares-none s e p ps q, in_range-in s e p a b)

  not-shared : Unclaimed s e ps → overlaps s e ps ≡ false
  not-shared f = none-shares s e 0 ps h ruled (λ p. go p (stand s e p))
    where
      go : (p : ℕ) → Where s e p → in_range s e p + contains p ps ≤ 1
      go p (under x y) = omega (arith, holds-le p ps)
      go p (within x y z) = omega (arith, f p x y)
      go p (past x y z) = omega (arith, holds-le p ps)

  module _ (R : ℕ) where
    lacks : lacks_pairs R s e ps ≡ true → Lacks R s e ps
    unfolding lacks_pairs
    lacks q = (join s e ps, joined, ltb-true R (size (join s e ps)) q)

    suffices : lacks_pairs R s e ps ≡ false → Suffices R s e ps
    unfolding lacks_pairs
    suffices q = (join s e ps, joined, ltb-false R (size (join s e ps)) q)

    lacking : Lacks R s e ps → lacks_pairs R s e ps ≡ true
    unfolding lacks_pairs
    lacking m = lt-ltb R (size (join s e ps)) (omega (arith, m.2, ap size (union-is m.0 m.1)))

    sufficing : Suffices R s e ps → lacks_pairs R s e ps ≡ false
    unfolding lacks_pairs
    sufficing m = le-ltb R (size (join s e ps)) (omega (arith, m.2, ap size (union-is m.0 m.1)))

    pub fits_in : lacks_pairs R s e ps ≡ false → size (join s e ps) ≤ R
    unfolding lacks_pairs
    fits_in q = ltb-false R (size (join s e ps)) q

-- both

module _ (R : ℕ) (ps ds : Pairs) (s e : ℕ) (doubt : Bool) (h : s < e) (ruled : ObeyFrom 0 ps) (ruled-too : ObeyFrom 0 ds) where
  pub claim_is : ClaimJudged R ps ds s e doubt (claim_fault R ps ds s e doubt)
  unfolding claim_fault
  claim_is = go doubt (overlaps s e ps) (lacks_pairs R s e ps) (lacks_pairs R s e ds) refl refl refl
    where
      go : (d u v x : Bool) → overlaps s e ps ≡ u → lacks_pairs R s e ps ≡ v → lacks_pairs R s e ds ≡ x → ClaimJudged R ps ds s e d (cond u 17 (cond (v || (d && x)) 18 0))
      go d true v x p q r = let k = shares-some s e 0 ps h ruled p in by_17 k.0 k.1 k.2 k.3
      go d false true x p q r = by_18 (free s e h ps ruled p) (inl (lacks s e h ps ruled R q))
      go true false false true p q r = by_18 (free s e h ps ruled p) (inr (refl, lacks s e h ds ruled-too R r))
      go true false false false p q r = is_claimed (free s e h ps ruled p) (suffices s e h ps ruled R q) (λ k. suffices s e h ds ruled-too R r)
      go false false false x p q r = is_claimed (free s e h ps ruled p) (suffices s e h ps ruled R q) (λ k. absurd (true≢false (sym k)))

  pub claim_only : (k : ℕ) → ClaimJudged R ps ds s e doubt k → k ≡ claim_fault R ps ds s e doubt
  unfolding claim_fault
  claim_only _ (by_17 p a b q) = go (overlaps s e ps) refl
    where
      go : (u : Bool) → overlaps s e ps ≡ u → ◌≡◌ {A = ℕ} 17 (cond u 17 (cond (lacks_pairs R s e ps || (doubt && lacks_pairs R s e ds)) 18 0))
      go true x = refl
      go false x = absurd (omega (arith, free s e h ps ruled x p a b, q))
  claim_only _ (by_18 f (inl m)) = rw (not-shared s e h ps ruled f, lacking s e h ps ruled R m)
  claim_only _ (by_18 f (inr m)) = rw (not-shared s e h ps ruled f, m.0, lacking s e h ds ruled-too R m.1, or-true (lacks_pairs R s e ps))
  claim_only _ (is_claimed f m g) = rw (not-shared s e h ps ruled f, sufficing s e h ps ruled R m) (go doubt g)
    where
      go : (d : Bool) → (d ≡ true → Suffices R s e ds) → ◌≡◌ {A = ℕ} 0 (cond (d && lacks_pairs R s e ds) 18 0)
      go true g = rw (sufficing s e h ds ruled-too R (g refl))
      go false g = refl

  -- ---- what its number says

  pub claim-numbered : Numbered (claim_fault R ps ds s e doubt)
  claim-numbered = go (claim_fault R ps ds s e doubt) claim_is
    where
      go : (k : ℕ) → ClaimJudged R ps ds s e doubt k → Numbered k
      go _ (by_17 p a b q) = inr (omega arith, omega arith)
      go _ (by_18 f m) = inr (omega arith, omega arith)
      go _ (is_claimed f m g) = inl refl

  -- a claim without a fault shares no place, and the ledgers have room for it
  pub claim-accepted : claim_fault R ps ds s e doubt ≡ 0 → (overlaps s e ps ≡ false) × (size (join s e ps) ≤ R) × (doubt ≡ true → size (join s e ds) ≤ R)
  claim-accepted z = go (claim_fault R ps ds s e doubt) claim_is z
    where
      go : (k : ℕ) → ClaimJudged R ps ds s e doubt k → k ≡ 0 → (overlaps s e ps ≡ false) × (size (join s e ps) ≤ R) × (doubt ≡ true → size (join s e ds) ≤ R)
      go _ (by_17 p a b q) z = absurd (omega arith)
      go _ (by_18 f m) z = absurd (omega arith)
      go _ (is_claimed f m g) z = (not-shared s e h ps ruled f, fits_in s e h ps ruled R (sufficing s e h ps ruled R m), λ d. fits_in s e h ds ruled-too R (sufficing s e h ds ruled-too R (g d)))

-- no fault: an accepted descriptor, then a count that may come or a payload that is empty or may be claimed
pub faultless : (F R known used : ℕ) (ps ds : Pairs) (h : List ℕ) → fault_of (descriptor_of h) ≡ 0
    → (is_eodc h ≡ true → (known ≡ 0) × (0 < third_of h) × (third_of h ≤ count_limit) × (used ≤ third_of h))
    → (is_eodc h ≡ false → 0 < second_of h → (third_of h + second_of h ≤ F) × (overlaps (third_of h) (third_of h + second_of h) ps ≡ false) × (size (join (third_of h) (third_of h + second_of h) ps) ≤ R)
    × (is_doubtful h ≡ true → size (join (third_of h) (third_of h + second_of h) ds) ≤ R))
    → request_fault R ps ds (request_of F known used h) ≡ 0
unfolding request_fault claim_fault lacks_pairs
faultless F R known used ps ds h d n p = go (is_eodc h) refl
  where
    asks : (a : HeaderRequest) → HeaderAsks F known used h a → request_fault R ps ds a ≡ 0 → request_fault R ps ds (request_of F known used h) ≡ 0
    asks a q z = ap (request_fault R ps ds) (sym (asked_only F known used h a q)) ∙ z

    claimable : is_eodc h ≡ false → 0 < second_of h → claim_fault R ps ds (third_of h) (third_of h + second_of h) (is_doubtful h) ≡ 0
    claimable q l = let k = p q l in rw (k.1, le-ltb R (size (join (third_of h) (third_of h + second_of h) ps)) k.2) (go (is_doubtful h) k.3)
      where
        go : (d : Bool) → (d ≡ true → size (join (third_of h) (third_of h + second_of h) ds) ≤ R) → ◌≡◌ {A = ℕ} (cond (d && ltb R (size (join (third_of h) (third_of h + second_of h) ds))) 18 0) 0
        go true g = rw (le-ltb R (size (join (third_of h) (third_of h + second_of h) ds)) (g refl))
        go false g = refl

    sized : is_eodc h ≡ false → Dec (second_of h ≡ 0) → request_fault R ps ds (request_of F known used h) ≡ 0
    sized q (yes e) = asks nothing (for_nothing d q e) refl
    sized q (no e) = asks (claims (third_of h) (third_of h + second_of h) (is_doubtful h)) (for_claim d q (omega arith) (p q (omega arith)).0) (claimable q (omega arith))

    go : (q : Bool) → is_eodc h ≡ q → request_fault R ps ds (request_of F known used h) ≡ 0
    go true q = let k = n q in asks (counts (third_of h)) (for_count d q k.0 k.1 k.2 k.3) refl
    go false q = sized q (ℕ_discrete (second_of h) 0)

pub judgement : Judgement
unfolding has payload_length claim_fault lacks_pairs overlaps join size
judgement =
    record {
      asked_is = asked;
      asked_only = asked_only;
      claim_is = claim_is;
      claim_only = λ R ps ds s e doubt k h ruled ruled-too c. claim_only R ps ds s e doubt h ruled ruled-too k c;
      both_due = (refl, (join 5 6 (pair 0 1 none), joined 5 6 (omega arith) (pair 0 1 none) (omega arith, omega arith, tt), omega arith));
      doubtful_lacks = (refl, refl);
      ends_by_descriptor = λ r. refl;
      eodc_by_descriptor = λ r. refl;
      doubtful_by_descriptor = λ r. refl;
      eodc_length = λ h q. rw q;
      data_length = λ h q. rw q;
    }
