-- The text of ranges: how long it is, and one range written after another.
use Prim.Native.Nat.{ℕ, ◌+◌, ◌-◌, ◌≤◌, ◌<◌}
use mathlib.Core.Path.{◌≡◌, refl, ap, ◌∙◌, sym}
use mathlib.Core.Bool.{Bool, true, false, cond}
use mathlib.Core.List.{List, [], ◌∷◌, ◌++◌, append-nil}
use native.Mathlib.Omega.{arith}
use borrow.Author.Tests.{ne_eqb}
use borrow.Rule.Slice.PartMut.{put_mid, mid_of, mid_len}
use lib.Dec.{eqb}
use lib.ListN.{length, set, take, drop, length-append, length-drop}
use lib.Seq.{append_snoc, length-take-le, take_all, take-add, take-append_seam, drop-append_seam, drop-drop, sets, length-sets}
use Rattle.octets.specs.Decimal.{digit_count, in_digits, decimal}
use Rattle.octets.proofs.Decimals.{length-decimal}
use Rattle.answers.proofs.WritesAt.{sets-append, sets-part}
use Rattle.ledger.specs.Pairs.{Pairs, none, pair, size}
use Rattle.rangelists.specs.RangeText.{separator_after, range_text, ranges_text}

-- ---- one range

pub length-range_text : (a b : ℕ) → length (range_text a b) ≡ digit_count a + 1 + digit_count (b - 1)
unfolding range_text
length-range_text a b = simp (length-append, length-decimal) (omega arith)

pub comma-none : separator_after 0 ≡ []
unfolding separator_after
comma-none = refl

pub comma-one : (n : ℕ) → 0 < n → separator_after n ≡ 44 ∷ []
unfolding separator_after
comma-one n h = rw (ne_eqb n 0 (omega arith))

pub comma-le : (n : ℕ) → length (separator_after n) ≤ 1
unfolding separator_after
comma-le n = go (eqb n 0)
  where
    go : (t : Bool) → length {A = ℕ} (cond t [] (44 ∷ [])) ≤ 1
    go true = omega arith
    go false = omega arith

in_three : (a b : ℕ) → decimal a ++ (45 ∷ []) ++ decimal (b - 1) ≡ range_text a b
unfolding range_text
in_three a b = append_snoc (decimal a) 45 (decimal (b - 1))

-- a range put into lent bytes in three stores: its start, the hyphen and its last place, each number filling a part of its own width
module _ (out ys zs : List ℕ) (at n m a b : ℕ) (fits : at + length (range_text a b) ≤ length out) (start : n ≡ digit_count a) (last : m ≡ digit_count (b - 1)) where
  abbrev hyphen : ℕ
  hyphen = at + n

  abbrev end : ℕ
  end = hyphen + 1 + m

  abbrev pub two_put : List ℕ
  two_put = set (put_mid at (hyphen - at) out ys) hyphen 45

  module _ (y : ys ≡ in_digits (length (mid_of at (hyphen - at) out)) a) where
    start-put : put_mid at (hyphen - at) out ys ≡ sets out at (decimal a)
    unfolding decimal
    start-put =
        let w : length (mid_of at (hyphen - at) out) ≡ digit_count a = mid_len at hyphen out (omega (arith, length-range_text a b)) ∙ omega arith in
        rw (y, w) (sets-part at hyphen out (decimal a) (omega (arith, length-decimal a)) (omega (arith, length-range_text a b)))

    two-put : two_put ≡ sets out at (decimal a ++ (45 ∷ []))
    two-put =
        let h : hyphen ≡ at + length (decimal a) = omega (arith, length-decimal a) in
        rw start-put (ap (λ (i : ℕ). set (sets out at (decimal a)) i 45) h ∙ sets-append (decimal a) (45 ∷ []) out at)

    pub range-put : zs ≡ in_digits (length (mid_of (hyphen + 1) (end - (hyphen + 1)) two_put)) (b - 1)
        → put_mid (hyphen + 1) (end - (hyphen + 1)) two_put zs ≡ sets out at (range_text a b)
    unfolding decimal
    range-put z =
        let l = length-range_text a b in
        let d = decimal a ++ (45 ∷ []) in
        let n₁ : length d ≡ digit_count a + 1 = simp (length-append, length-decimal) in
        let k : length (sets out at d) ≡ length out = length-sets out at d in
        let w : length (mid_of (hyphen + 1) (end - (hyphen + 1)) (sets out at d)) ≡ digit_count (b - 1) = mid_len (hyphen + 1) end (sets out at d) (omega arith) ∙ omega arith in
        let h : hyphen + 1 ≡ at + length d = omega arith in
        rw (z, two-put, w)
        (sets-part (hyphen + 1) end (sets out at d) (decimal (b - 1)) (omega (arith, length-decimal (b - 1))) (omega arith)
        ∙ ap (λ (i : ℕ). sets (sets out at d) i (decimal (b - 1))) h
        ∙ sets-append d (decimal (b - 1)) out at
        ∙ ap (λ (t : List ℕ). sets out at t) (in_three a b))

-- ---- one range after another

-- n bytes of a text are written, and what comes next of it is written after them
module _ (text t rest : List ℕ) (n : ℕ) (h : n ≤ length text) (e : drop n text ≡ t ++ rest) where
  pub next-drop : drop (n + length t) text ≡ rest
  next-drop = sym (drop-drop (length t) n text) ∙ rw (e, drop-append_seam t rest)

  pub next_le : n + length t ≤ length text
  next_le = omega (arith, length-drop n text, ap length e, length-append t rest)

  pub next-put : (out₀ : List ℕ) → sets (sets out₀ 0 (take n text)) n t ≡ sets out₀ 0 (take (n + length t) text)
  next-put out₀ =
      let k : 0 + length (take n text) ≡ n = omega (arith, length-take-le n text h) in
      let a : take (n + length t) text ≡ take n text ++ t = take-add n (length t) text ∙ rw (e, take-append_seam t rest) in
      ap (λ (i : ℕ). sets (sets out₀ 0 (take n text)) i t) (sym k) ∙ sets-append (take n text) t out₀ 0 ∙ ap (λ (x : List ℕ). sets out₀ 0 x) (sym a)

-- all of it is written where nothing comes next
pub next-all : (text out₀ : List ℕ) (n : ℕ) → drop n text ≡ [] → sets out₀ 0 (take n text) ≡ sets out₀ 0 text
next-all text out₀ n e =
    let h : length text ≤ n = omega (arith, length-drop n text, ap length e) in
    rw (take_all n text h)

-- the ranges of pairs that are after n bytes
unfoldable pub list_from : ℕ → Pairs → List ℕ
list_from n none = []
list_from n (pair a b ps) = separator_after n ++ (range_text a b ++ list_from 1 ps)

pub list_from-none : (n : ℕ) (ps : Pairs) → ps ≡ none → list_from n ps ≡ []
unfolding list_from
list_from-none n ps e = rw e

list_from-any : (m n : ℕ) (ps : Pairs) → 0 < m → 0 < n → list_from m ps ≡ list_from n ps
unfolding list_from
list_from-any m n none h g = refl
list_from-any m n (pair a b ps) h g = rw (comma-one m h, comma-one n g)

pub list_from-all : (ps : Pairs) → list_from 0 ps ≡ ranges_text ps
unfolding list_from ranges_text
list_from-all none = refl
list_from-all (pair a b none) = rw comma-none (append-nil (range_text a b))
list_from-all (pair a b (pair c d ps)) =
    let i : range_text c d ++ list_from 1 ps ≡ ranges_text (pair c d ps) = rw comma-none at (list_from-all (pair c d ps)) in
    rw (comma-none, comma-one 1 (omega arith)) (ap (λ (x : List ℕ). range_text a b ++ (44 ∷ x)) i)

-- one range more, with m bytes up to its end
module _ (n m a b : ℕ) (qs : Pairs) (h : m ≡ n + length (separator_after n) + length (range_text a b)) where
  pub list-next : list_from n (pair a b qs) ≡ separator_after n ++ (range_text a b ++ list_from m qs)
  unfolding list_from
  list-next = rw (list_from-any 1 m qs (omega arith) (omega (arith, length-range_text a b)))

  pub list-grows : m + length (list_from m qs) ≡ n + length (list_from n (pair a b qs))
  list-grows = rw list-next (simp length-append (omega arith))

-- n bytes of the text are written, and the range from a to b comes next
module _ (text : List ℕ) (n a b : ℕ) (qs : Pairs) (h : n ≤ length text) (e : drop n text ≡ list_from n (pair a b qs)) where
  with-comma : drop n text ≡ separator_after n ++ (range_text a b ++ list_from (n + length (separator_after n) + length (range_text a b)) qs)
  with-comma = e ∙ list-next n _ a b qs refl

  pub comma-fits : n + length (separator_after n) ≤ length text
  comma-fits = next_le text (separator_after n) _ n h with-comma

  after-comma : drop (n + length (separator_after n)) text ≡ range_text a b ++ list_from (n + length (separator_after n) + length (range_text a b)) qs
  after-comma = next-drop text (separator_after n) _ n h with-comma

  pub range-fits : n + length (separator_after n) + length (range_text a b) ≤ length text
  range-fits = next_le text (range_text a b) _ (n + length (separator_after n)) comma-fits after-comma

  -- both put, with m bytes up to their end
  module _ (m : ℕ) (q : m ≡ n + length (separator_after n) + length (range_text a b)) where
    pub list_left : drop m text ≡ list_from m qs
    list_left = rw q (next-drop text (range_text a b) _ (n + length (separator_after n)) comma-fits after-comma)

    pub list_put : (out₀ out out₁ out₂ : List ℕ) → out ≡ sets out₀ 0 (take n text) → out₁ ≡ sets out n (separator_after n)
        → out₂ ≡ sets out₁ (n + length (separator_after n)) (range_text a b) → out₂ ≡ sets out₀ 0 (take m text)
    list_put out₀ out out₁ out₂ o o₁ o₂ =
        rw (o₂, q, o₁, o, next-put text (separator_after n) _ n h with-comma out₀)
        (next-put text (range_text a b) _ (n + length (separator_after n)) comma-fits after-comma out₀)

-- the text is empty where there are no pairs
pub text-empty : (ps : Pairs) → length (ranges_text ps) ≡ 0 → size ps ≡ 0
unfolding size
text-empty none h = refl
text-empty (pair a b ps) h =
    let l : length (list_from 0 (pair a b ps)) ≡ 0 = rw (list_from-all (pair a b ps)) h in
    absurd (omega (arith, list-grows 0 (0 + length (separator_after 0) + length (range_text a b)) a b ps refl, length-range_text a b))

pub text-some : (ps : Pairs) → (length (ranges_text ps) ≡ 0 → ⊥) → size ps ≡ 0 → ⊥
unfolding size ranges_text
text-some none h e = h refl
text-some (pair a b ps) h e = omega arith
