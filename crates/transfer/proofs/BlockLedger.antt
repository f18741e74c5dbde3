-- The ledger of a list of blocks: the only one by the rule that holds exactly the places that they claim.
use Prim.Native.Nat.{ℕ, ◌+◌, ◌≤◌, ◌<◌, min, max}
use mathlib.Core.Path.{◌≡◌, refl, sym, ap, ◌∙◌}
use mathlib.Core.Logic.{◌↔◌, ◌⊎◌, inl, inr, ⊎_elim}
use mathlib.Core.Bool.{true}
use mathlib.Core.List.{List, [], ◌∷◌}
use native.Mathlib.Omega.{arith}
use native.Mathlib.Decide.{dec_lt}
use Rattle.ledger.specs.Pairs.{Pairs, size, contains, ObeyFrom}
use Rattle.ledger.specs.Ledger.{obeys, pairs_of, laid_out, Contains}
use Rattle.ledger.proofs.PairsPlaces.{in_range-in, Where, under, within, past, stand}
use Rattle.ledger.proofs.LedgerLayout.{length-laid_out, pairs_of-laid_out, rule-laid_out}
use Rattle.ledger.proofs.LedgerRule.{contains_places, only_one}
use Rattle.transfer.specs.Transfer.{sum}
use Rattle.transfer.specs.Block.{Block, place_of, size_of, claims_in}
use Rattle.transfer.specs.AfterList.{ClaimsPlace, LedgerIs}
use Rattle.transfer.proofs.BlockClaims.{cover, claims-ruled, claims-holds}

pub cover-claims : (p : ℕ) (xs : List Block) → 0 < cover p xs → ClaimsPlace p xs
unfolding sum
cover-claims p [] h = absurd (omega arith)
cover-claims p (x ∷ xs) h = go (stand (place_of x) (place_of x + size_of x) p) (λ k. cover-claims p xs k)
  where
    go : Where (place_of x) (place_of x + size_of x) p → (0 < cover p xs → ClaimsPlace p xs) → ((place_of x ≤ p) × (p < place_of x + size_of x)) ⊎ ClaimsPlace p xs
    go (within a b e) i = inl (a, b)
    go (under a e) i = inr (i (omega (arith, h, e)))
    go (past a b e) i = inr (i (omega (arith, h, e)))

pub claims-cover : (p : ℕ) (xs : List Block) → ClaimsPlace p xs → 0 < cover p xs
unfolding sum
claims-cover p [] h = absurd h
claims-cover p (x ∷ xs) (inl h) = omega (arith, in_range-in (place_of x) (place_of x + size_of x) p h.0 h.1)
claims-cover p (x ∷ xs) (inr h) = omega (arith, claims-cover p xs h)

module _ (R : ℕ) (before : Pairs) (xs : List Block) (ruled : ObeyFrom 0 before) (apart : (q : ℕ) → cover q xs + contains q before ≤ 1) (room : size (claims_in xs before) ≤ R) where
  all : ObeyFrom 0 (claims_in xs before)
  all = claims-ruled xs before ruled

  rule-kept : obeys (laid_out R (claims_in xs before)) ≡ true
  rule-kept = unfold obeys in rule-laid_out R 0 (claims_in xs before) all

  holds-claims : (p : ℕ) → (contains p (claims_in xs before) ≡ 1) ↔ (ClaimsPlace p xs ⊎ (contains p before ≡ 1))
  holds-claims p = (to (dec_lt 0 (cover p xs)), ⊎_elim (λ (c : ClaimsPlace p xs). omega (arith, e, apart p, claims-cover p xs c)) (λ (h : contains p before ≡ 1). omega (arith, e, h)))
    where
      e : contains p (claims_in xs before) ≡ max (min 1 (cover p xs)) (contains p before)
      e = claims-holds p xs before ruled

      to : Dec (0 < cover p xs) → contains p (claims_in xs before) ≡ 1 → ClaimsPlace p xs ⊎ (contains p before ≡ 1)
      to (yes c) h = inl (cover-claims p xs c)
      to (no c) h = inr (omega (arith, e, h))

  places : (p : ℕ) → Contains p (laid_out R (claims_in xs before)) ↔ (ClaimsPlace p xs ⊎ (contains p before ≡ 1))
  places p =
      let at = contains_places p (laid_out R (claims_in xs before)) rule-kept in
      let same : contains p (pairs_of (laid_out R (claims_in xs before))) ≡ contains p (claims_in xs before) = ap (contains p) (pairs_of-laid_out R 0 (claims_in xs before) all room) in
      ((λ h. (holds-claims p).0 (sym same ∙ at.1 h)), (λ c. at.0 (same ∙ (holds-claims p).1 c)))

  pub ledger-is : LedgerIs R before (laid_out R (claims_in xs before)) xs
  ledger-is =
      record {
        is = refl;
        entries = length-laid_out R (claims_in xs before);
        rule = rule-kept;
        places = places;
        only = λ m l o h. only_one R m (laid_out R (claims_in xs before)) l (length-laid_out R (claims_in xs before)) o rule-kept (λ p. ((λ x. (places p).1 ((h p).0 x)), (λ x. (h p).1 ((places p).0 x))));
      }
