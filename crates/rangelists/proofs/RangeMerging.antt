-- Merging the ranges of a list, one by one.
use Prim.Native.Nat.{ℕ, zero, suc, ◌*◌, ◌/◌, ◌%◌, ◌≤◌, ◌<◌}
use mathlib.Core.Path.{◌≡◌, refl, ap, ◌∙◌}
use mathlib.Core.Bool.{Bool, true, false, cond}
use mathlib.Core.List.{List, [], ◌∷◌}
use native.Mathlib.Omega.{arith}
use native.Mathlib.Decide.{dec_lt}
use borrow.Author.Tests.{lt-ltb, le-ltb}
use lib.Dec.{ltb}
use lib.ListN.{length, replicate, length-replicate}
use Rattle.std.specs.Prelude.{Option, Some, None, Ok, Err}
use Rattle.answers.specs.Refusal.{number_in}
use Rattle.answers.specs.Loaded.{Loaded}
use Rattle.ledger.specs.Pairs.{Pairs, none, size, join}
use Rattle.ledger.specs.Ledger.{obeys, pairs_of, laid_out, capacity}
use Rattle.ledger.proofs.PairsJoin.{join-ruled}
use Rattle.ledger.proofs.LedgerLayout.{pairs_of-laid_out, rule-laid_out, rule-ruled, laid_out-pairs_of}
use Rattle.ledger.proofs.LedgerOdd.{obeys-even}
use Rattle.claims.specs.Claim.{JoinResult}
use Rattle.rangelists.specs.RangeText.{places, parts, ranges_of, range_of, Merged, merged, trouble, merge_range, merged_from, Represents}
use Rattle.rangelists.specs.declared.ranges.Range.{Range}
use Rattle.rangelists.proofs.RangeParsing.{range-some}

-- ---- one range more, and then the others

merge_range-on : (r : ℕ) (ps qs : Pairs) (x : Option Range) (on : Pairs → Merged) → merge_range r ps x merged ≡ merged qs → merge_range r ps x on ≡ on qs
unfolding merge_range
merge_range-on r ps qs None on h = let z : ◌≡◌ {A = ℕ} 0 1 = cc in absurd (omega arith)
merge_range-on r ps qs (Some range) on h = go _ (ltb r (size (join range.start range.end ps))) h
  where
    go : (n : ℕ) (t : Bool) → cond t (trouble n) (merged (join range.start range.end ps)) ≡ merged qs → cond t (trouble n) (on (join range.start range.end ps)) ≡ on qs
    go n true k = let z : ◌≡◌ {A = ℕ} 0 1 = cc in absurd (omega arith)
    go n false k = let q : join range.start range.end ps ≡ qs = cc in ap on q

merge_range-stop : (r k : ℕ) (ps : Pairs) (x : Option Range) (on : Pairs → Merged) → merge_range r ps x merged ≡ trouble k → merge_range r ps x on ≡ trouble k
unfolding merge_range
merge_range-stop r k ps None on h = h
merge_range-stop r k ps (Some range) on h = go _ (ltb r (size (join range.start range.end ps))) h
  where
    go : (n : ℕ) (t : Bool) → cond t (trouble n) (merged (join range.start range.end ps)) ≡ trouble k → cond t (trouble n) (on (join range.start range.end ps)) ≡ trouble k
    go n true q = q
    go n false q = let z : ◌≡◌ {A = ℕ} 0 1 = cc in absurd (omega arith)

merged_on : (r : ℕ) (ps qs : Pairs) (t : List ℕ) (ts : List (List ℕ)) → merge_range r ps (range_of t) merged ≡ merged qs → merged_from r ps (t ∷ ts) ≡ merged_from r qs ts
unfolding merged_from
merged_on r ps qs t ts h = merge_range-on r ps qs (range_of t) (λ qs. merged_from r qs ts) h

merged-stop : (r k : ℕ) (ps : Pairs) (t : List ℕ) (ts : List (List ℕ)) → merge_range r ps (range_of t) merged ≡ trouble k → merged_from r ps (t ∷ ts) ≡ trouble k
unfolding merged_from
merged-stop r k ps t ts h = merge_range-stop r k ps (range_of t) (λ qs. merged_from r qs ts) h

-- ---- one range, as the code joins it

pub represents-stopped : (m : Merged) (k : ℕ) (l : List ℕ) → 0 < k → m ≡ trouble k → Represents m k l
represents-stopped m k l h e = record { done = λ z. absurd (omega arith); stopped = λ z. e }

pub represents-done : (m : Merged) (l : List ℕ) → obeys l ≡ true → m ≡ merged (pairs_of l) → Represents m 0 l
represents-done m l o e = record { done = λ z. (o, e); stopped = λ z. absurd (omega arith) }

module _ (r : ℕ) (ps : Pairs) (t l : List ℕ) where
  pub represents-51 : range_of t ≡ None → Represents (merge_range r ps (range_of t) merged) 51 l
  unfolding merge_range
  represents-51 e = represents-stopped _ 51 l (omega arith) (rw e)

module _ (t l : List ℕ) (s e : ℕ) (h : range_of t ≡ places s e) (o : obeys l ≡ true) (m : List ℕ) where
  some : s < e
  some = range-some t s e h

  lacking : capacity l < size (join s e (pairs_of l)) → Represents (merge_range (capacity l) (pairs_of l) (range_of t) merged) 52 m
  unfolding merge_range
  lacking x = represents-stopped _ 52 m (omega arith) (rw (h, lt-ltb (capacity l) (size (join s e (pairs_of l))) x))

  joined : size (join s e (pairs_of l)) ≤ capacity l → m ≡ laid_out (capacity l) (join s e (pairs_of l)) → Represents (merge_range (capacity l) (pairs_of l) (range_of t) merged) 0 m
  unfolding merge_range obeys
  joined x is =
      let w = join-ruled s e 0 (pairs_of l) some (omega arith) (rule-ruled 0 l o) in
      rw is
      (represents-done _ (laid_out (capacity l) (join s e (pairs_of l))) (rule-laid_out (capacity l) 0 (join s e (pairs_of l)) w)
      (rw (h, le-ltb (capacity l) (size (join s e (pairs_of l))) x, pairs_of-laid_out (capacity l) 0 (join s e (pairs_of l)) w x)))

  pub represents-join : (answer : Loaded) → JoinResult s e l answer m → Represents (merge_range (capacity l) (pairs_of l) (range_of t) merged) (number_in answer) m
  represents-join (Ok u) j = joined ((j.done_where o some).0 refl) (j.by_rule o some refl)
  represents-join (Err k) j = rw (j.refused_by k refl) (lacking (go (dec_lt (capacity l) (size (join s e (pairs_of l))))))
    where
      go : Dec (capacity l < size (join s e (pairs_of l))) → capacity l < size (join s e (pairs_of l))
      go (yes x) = x
      go (no x) =
          let is = (j.done_where o some).1 (omega arith) in
          let z : ◌≡◌ {A = ℕ} 0 1 = cc in
          absurd (omega arith)

-- ---- the list, as the code walks it: the next text is joined

module _ (r k : ℕ) (ps : Pairs) (t : List ℕ) (ts : List (List ℕ)) (l : List ℕ) (q : Represents (merge_range r ps (range_of t) merged) k l) where
  pub walk-stop : 0 < k → merged_from r ps (t ∷ ts) ≡ trouble k
  walk-stop h = merged-stop r k ps t ts (q.stopped h)

  pub walk-next : k ≡ 0 → merged_from r ps (t ∷ ts) ≡ merged_from r (pairs_of l) ts
  walk-next z = merged_on r ps (pairs_of l) t ts (q.done z).1

pub walk-end : (r : ℕ) (ps : Pairs) → merged_from r ps [] ≡ merged ps
unfolding merged_from
walk-end r ps = refl

-- ---- the ledger before the first range, and after the last

zero-lent : (r : ℕ) → replicate (2 * r) 0 ≡ laid_out r none
unfolding laid_out
zero-lent zero = refl
zero-lent (suc r) = let e : 2 * suc r ≡ suc (suc (2 * r)) = omega arith in rw (e, zero-lent r)

module _ (l cleared : List ℕ) (n : length l % 2 ≡ 0) (c : cleared ≡ replicate (length l) 0) where
  cleared-lent : cleared ≡ laid_out (capacity l) none
  cleared-lent = let e : length l ≡ 2 * (length l / 2) = omega arith in c ∙ ap (λ (m : ℕ). replicate m 0) e ∙ zero-lent (capacity l)

  cleared-length : length cleared ≡ length l
  cleared-length = ap length c ∙ length-replicate (length l) 0

  pub cleared-obeys : obeys cleared ≡ true
  unfolding obeys
  cleared-obeys = rw cleared-lent (rule-laid_out (capacity l) 0 none tt)

  pub cleared-merged : (text : List ℕ) → merged_from (capacity cleared) (pairs_of cleared) (parts text) ≡ ranges_of (capacity l) text
  unfolding ranges_of size
  cleared-merged text =
      let p : pairs_of cleared ≡ none = ap pairs_of cleared-lent ∙ pairs_of-laid_out (capacity l) 0 none tt (omega arith) in
      rw (p, cleared-length)

pub obeyed-lent : (l m : List ℕ) → length m ≡ length l → obeys m ≡ true → m ≡ laid_out (capacity l) (pairs_of m)
unfolding obeys
obeyed-lent l m e o = laid_out-pairs_of (capacity l) 0 m o (omega (arith, obeys-even m o))
