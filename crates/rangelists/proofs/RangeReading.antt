-- What the reader of range lists answers and leaves, case by case: `RangeReading` holds.
use Prim.Native.Nat.{ℕ, ◌<◌, ◌≤◌}
use mathlib.Core.Path.{◌≡◌, refl, sym, ap, ◌∙◌}
use mathlib.Core.Bool.{Bool, true, false, cond, false≢true}
use mathlib.Core.List.{List, ◌++◌, [], ◌∷◌, append-nil}
use native.Mathlib.Omega.{arith}
use borrow.Author.Tests.{lt-ltb, le-ltb, ltb-true, ltb-false}
use lib.Dec.{ltb}
use lib.ListN.{length, replicate}
use lib.Seq.{append_snoc}
use Rattle.std.specs.Prelude.{Option, Some, None, Result, Ok, Err, ⊤, is_err}
use Rattle.answers.specs.Refusal.{number, numbered, number_in, refusal_number}
use Rattle.answers.specs.declared.refusal.Refusal.{Refusal}
use Rattle.answers.proofs.Numbers.{above_0}
use Rattle.ledger.specs.Pairs.{Pairs, size, none, join}
use Rattle.ledger.specs.Ledger.{length_wrong, obeys, pairs_of, laid_out, capacity}
use Rattle.ledger.proofs.LedgerSizes.{length-right, length-wrong}
use Rattle.rangelists.specs.RangeText.{places, merged, trouble, loaded, entries_after, read_ranges, read_ranges_after, ranges_of, parts, range_of, Merged, merge_range, merged_from, Represents}
use Rattle.rangelists.specs.RangeReading.{Merges, no_range, one_more, Trouble, by_51, by_52, Reads, Refuses, RangeReading}
use Rattle.rangelists.specs.declared.ranges.Range.{Range}

-- ---- the answer, case by case

module _ (text ledger : List ℕ) where
  pub reads-53 : length_wrong ledger ≡ true → (Err 53 ≡ read_ranges text ledger) × (ledger ≡ read_ranges_after text ledger)
  unfolding read_ranges read_ranges_after
  reads-53 w = (rw w, rw w)

  module _ (w : length_wrong ledger ≡ false) where
    pub reads-trouble : (k : ℕ) → ranges_of (capacity ledger) text ≡ trouble k
        → (Err k ≡ read_ranges text ledger) × (replicate (length ledger) 0 ≡ read_ranges_after text ledger)
    unfolding read_ranges read_ranges_after loaded entries_after
    reads-trouble k e = (rw (w, e), rw (w, e))

    pub reads-merged : (ps : Pairs) → ranges_of (capacity ledger) text ≡ merged ps → (Ok tt ≡ read_ranges text ledger) × (laid_out (capacity ledger) ps ≡ read_ranges_after text ledger)
    unfolding read_ranges read_ranges_after loaded entries_after
    reads-merged ps e = (rw (w, e), rw (w, e))

    -- by the answer of the steps, and the ledger that they left
    pub reads-err : (r : Result ⊤ Refusal) (m : List ℕ) → Represents (ranges_of (capacity ledger) text) (refusal_number r) m → is_err r ≡ true
        → (numbered r ≡ read_ranges text ledger) × (replicate (length ledger) 0 ≡ read_ranges_after text ledger)
    reads-err (Ok u) m q e = absurd (false≢true e)
    reads-err (Err k) m q e = reads-trouble (number k) (q.stopped (above_0 k))

    pub reads-ok : (r : Result ⊤ Refusal) (m : List ℕ) → Represents (ranges_of (capacity ledger) text) (refusal_number r) m → is_err r ≡ false
        → (numbered r ≡ read_ranges text ledger) × (obeys m ≡ true) × (laid_out (capacity ledger) (pairs_of m) ≡ read_ranges_after text ledger)
    reads-ok (Ok u) m q e =
        let d = q.done refl in
        let t = reads-merged (pairs_of m) d.1 in
        (t.0, d.0, t.1)
    reads-ok (Err k) m q e = absurd (false≢true (sym e))

-- ---- from the rows to the definition

-- texts that merge, and then the others
merges-on : (r : ℕ) (ps qs : Pairs) (ts rest : List (List ℕ)) → Merges r ps ts qs → merged_from r ps (ts ++ rest) ≡ merged_from r qs rest
unfolding merged_from merge_range
merges-on r ps qs [] rest (no_range _) = refl
merges-on r ps qs (t ∷ ts) rest (one_more _ _ _ _ s e x h m) = rw (x, le-ltb r (size (join s e ps)) h) (merges-on r (join s e ps) qs ts rest m)

merges-all : (r : ℕ) (ps : Pairs) (ts : List (List ℕ)) → Merges r none ts ps → merged_from r none ts ≡ merged ps
unfolding merged_from
merges-all r ps ts m = ap (merged_from r none) (sym (append-nil ts)) ∙ merges-on r none ps ts [] m

trouble-stops : (r k : ℕ) (ts : List (List ℕ)) → Trouble r ts k → merged_from r none ts ≡ trouble k
unfolding merged_from merge_range
trouble-stops r k ts (by_51 before after t ps e m x) = ap (merged_from r none) e ∙ merges-on r none ps before (t ∷ after) m ∙ rw x
trouble-stops r k ts (by_52 before after t ps s e q m x h) =
    ap (merged_from r none) q ∙ merges-on r none ps before (t ∷ after) m ∙ rw (x, lt-ltb r (size (join s e ps)) h)

-- ---- from the definition to the rows

-- one text more merges
merges-more : (r : ℕ) (ps qs : Pairs) (ts : List (List ℕ)) (t : List ℕ) (s e : ℕ) → Merges r ps ts qs → range_of t ≡ places s e → size (join s e qs) ≤ r
    → Merges r ps (ts ++ (t ∷ [])) (join s e qs)
merges-more r ps qs [] t s e (no_range _) x h = one_more ps (join s e ps) t [] s e x h (no_range (join s e ps))
merges-more r ps qs (u ∷ us) t s e (one_more _ _ _ _ a b y l m) x h =
    one_more ps (join s e qs) u (us ++ (t ∷ [])) a b y l (merges-more r (join a b ps) qs us t s e m x h)

-- what is merged has a row
data Row (r : ℕ) (ts : List (List ℕ)) : Merged → Type 0 where
  merges : (ps : Pairs) → Merges r none ts ps → Row r ts (merged ps)
  stops : (k : ℕ) → Trouble r ts k → Row r ts (trouble k)

row_from : (r : ℕ) (before ts : List (List ℕ)) (ps : Pairs) → Merges r none before ps → Row r (before ++ ts) (merged_from r ps ts)
unfolding merged_from merge_range
row_from r before [] ps m = rw (append-nil before) (merges ps m)
row_from r before (t ∷ ts) ps m = go (range_of t) refl (λ qs n. row_from r (before ++ (t ∷ [])) ts qs n)
  where
    go : (x : Option Range) → range_of t ≡ x → ((qs : Pairs) → Merges r none (before ++ (t ∷ [])) qs → Row r (before ++ (t ∷ []) ++ ts) (merged_from r qs ts))
        → Row r (before ++ (t ∷ ts)) (merge_range r ps x (λ qs. merged_from r qs ts))
    go None x i = stops 51 (by_51 before ts t ps refl m x)
    go (Some range) x i = test (ltb r (size (join range.start range.end ps))) refl
      where
        test : (b : Bool) → ltb r (size (join range.start range.end ps)) ≡ b → Row r (before ++ (t ∷ ts)) (cond b (trouble 52) (merged_from r (join range.start range.end ps) ts))
        test true y = stops 52 (by_52 before ts t ps range.start range.end refl m x (ltb-true r (size (join range.start range.end ps)) y))
        test false y =
            rw (append_snoc before t ts) at (i (join range.start range.end ps) (merges-more r none ps before t range.start range.end m x (ltb-false r (size (join range.start range.end ps)) y)))

-- ---- the reader

module _ (text ledger : List ℕ) (w : length_wrong ledger ≡ false) where
  row_is : Row (capacity ledger) (parts text) (ranges_of (capacity ledger) text)
  unfolding ranges_of
  row_is = row_from (capacity ledger) [] (parts text) none (no_range none)

  pub answer_is : read_ranges text ledger ≡ loaded (ranges_of (capacity ledger) text)
  unfolding read_ranges
  answer_is = rw w

  trouble_only : 0 < number_in (read_ranges text ledger) → Trouble (capacity ledger) (parts text) (number_in (read_ranges text ledger))
  unfolding loaded
  trouble_only = rw answer_is (go (ranges_of (capacity ledger) text) row_is)
    where
      go : (m : Merged) → Row (capacity ledger) (parts text) m → 0 < number_in (loaded m) → Trouble (capacity ledger) (parts text) (number_in (loaded m))
      go (merged ps) (merges _ m) h = absurd (omega arith)
      go (trouble k) (stops _ t) h = t

  merged_only : number_in (read_ranges text ledger) ≡ 0 → (ps : Pairs) × Merges (capacity ledger) none (parts text) ps
  unfolding loaded
  merged_only = rw answer_is (go (ranges_of (capacity ledger) text) row_is)
    where
      go : (m : Merged) → Row (capacity ledger) (parts text) m → number_in (loaded m) ≡ 0 → (ps : Pairs) × Merges (capacity ledger) none (parts text) ps
      go (merged ps) (merges _ m) h = (ps, m)
      go (trouble k) (stops _ (by_51 before after t ps e m x)) h = absurd (omega arith)
      go (trouble k) (stops _ (by_52 before after t ps s e q m x l)) h = absurd (omega arith)

module _ (text ledger : List ℕ) where
  refuses : (k : ℕ) (after : List ℕ) → (Err k ≡ read_ranges text ledger) × (after ≡ read_ranges_after text ledger) → Refuses text ledger k after
  refuses k after r = record { number = sym (ap number_in r.0); after_is = sym r.1 }

  pub reads : length_wrong ledger ≡ false → (ps : Pairs) → ranges_of (capacity ledger) text ≡ merged ps → Reads text ledger ps
  reads w ps m =
      let r = reads-merged text ledger w ps m in
      record { accepted = sym r.0; number = sym (ap number_in r.0); after = sym r.1 }

  pub range-reading : RangeReading text ledger
  unfolding ranges_of
  range-reading =
      record {
        wrong_length = λ o. refuses 53 ledger (reads-53 text ledger (length-wrong ledger o));
        trouble_is = λ e l k t. refuses k _ (reads-trouble text ledger (length-right ledger e l) k (trouble-stops (capacity ledger) k (parts text) t));
        trouble_only = λ e l. trouble_only text ledger (length-right ledger e l);
        merged_is = λ e l ps m. reads (length-right ledger e l) ps (merges-all (capacity ledger) ps (parts text) m);
        merged_only = λ e l. merged_only text ledger (length-right ledger e l);
      }
