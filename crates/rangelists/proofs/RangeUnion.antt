-- The merged set of accepted text: the union of the ranges read.
use Prim.Native.Nat.{ℕ, ◌≤◌, max}
use mathlib.Core.Path.{◌≡◌, refl}
use mathlib.Core.Bool.{Bool, true, false, cond}
use mathlib.Core.List.{List, [], ◌∷◌}
use native.Mathlib.Omega.{arith}
use borrow.Author.Tests.{ltb-false}
use lib.Dec.{ltb}
use Rattle.std.specs.Prelude.{Option, Some, None}
use Rattle.ledger.specs.Pairs.{Pairs, none, size, contains, ObeyFrom, join}
use Rattle.ledger.proofs.PairsJoin.{join-ruled, join-holds}
use Rattle.rangelists.specs.RangeText.{parts, range_of, merged, trouble, merge_range, merged_from, ranges_of, range_contains, list_contains}
use Rattle.rangelists.specs.declared.ranges.Range.{Range}
use Rattle.rangelists.proofs.RangeParsing.{range-some}

-- qs obeys the rule in r pairs and holds the places of ps and those of the ranges
abbrev Union : ℕ → Pairs → List (List ℕ) → Pairs → Type 0
Union r ps ts qs = ObeyFrom 0 qs × (size qs ≤ r) × ((p : ℕ) → contains p qs ≡ max (contains p ps) (list_contains p ts))

union : (r : ℕ) (ps qs : Pairs) (ts : List (List ℕ)) → ObeyFrom 0 ps → size ps ≤ r → merged_from r ps ts ≡ merged qs → Union r ps ts qs
unfolding merged_from list_contains merge_range range_contains
union r ps qs [] c n h = let e : ps ≡ qs = cc in rw (← e) (c, n, λ p. omega arith)
union r ps qs (t ∷ ts) c n h = go (range_of t) refl h (λ ps c n h. union r ps qs ts c n h)
  where
    go : (x : Option Range) → range_of t ≡ x → merge_range r ps x (λ qs. merged_from r qs ts) ≡ merged qs
        → ((ps : Pairs) → ObeyFrom 0 ps → size ps ≤ r → merged_from r ps ts ≡ merged qs → Union r ps ts qs)
        → ObeyFrom 0 qs × (size qs ≤ r) × ((p : ℕ) → contains p qs ≡ max (contains p ps) (max (range_contains p (range_of t)) (list_contains p ts)))
    go None x k i = let z : ◌≡◌ {A = ℕ} 0 1 = cc in absurd (omega arith)
    go (Some range) x k i = test _ (ltb r (size (join range.start range.end ps))) refl k
      where
        test : (j : ℕ) (b : Bool) → ltb r (size (join range.start range.end ps)) ≡ b → cond b (trouble j) (merged_from r (join range.start range.end ps) ts) ≡ merged qs
            → ObeyFrom 0 qs × (size qs ≤ r) × ((p : ℕ) → contains p qs ≡ max (contains p ps) (max (range_contains p (range_of t)) (list_contains p ts)))
        test j true y k = let z : ◌≡◌ {A = ℕ} 0 1 = cc in absurd (omega arith)
        test j false y k =
            let l = range-some t range.start range.end x in
            let u = i (join range.start range.end ps) (join-ruled range.start range.end 0 ps l (omega arith) c) (ltb-false r (size (join range.start range.end ps)) y) k in
            (u.0, u.1, λ p. rw x (omega (arith, u.2 p, join-holds range.start range.end 0 p ps l c)))

pub reads-union : (r : ℕ) (text : List ℕ) (ps : Pairs) → ranges_of r text ≡ merged ps → ObeyFrom 0 ps × (size ps ≤ r) × ((p : ℕ) → contains p ps ≡ list_contains p (parts text))
unfolding ranges_of size contains
reads-union r text ps h =
    let u = union r none ps (parts text) tt (omega arith) h in
    (u.0, u.1, λ p. omega (arith, u.2 p))
