-- The text of a ledger, read back.
use Prim.Native.Nat.{ℕ, suc, ◌+◌, ◌-◌, ◌≤◌, ◌<◌}
use mathlib.Core.Path.{◌≡◌, refl, sym, ap, ◌∙◌}
use mathlib.Core.Bool.{true, false, and-eq-true_iff}
use mathlib.Core.List.{List, [], ◌∷◌, ◌++◌}
use native.Mathlib.Omega.{arith}
use borrow.Author.Tests.{lt-ltb, le-ltb, leb-true}
use lib.Dec.{leb}
use lib.ListN.{length, take, drop}
use lib.Seq.{take_at}
use Rattle.std.specs.Prelude.{Ok}
use Rattle.octets.specs.Cases.{AllHold}
use Rattle.octets.specs.Decimal.{digit_count, decimal}
use Rattle.texts.specs.Text.{is_digit, all}
use Rattle.octets.proofs.Decimals.{width_some, all-in_digits, decimal_reads_back, length-decimal, width-20}
use Rattle.octets.proofs.Reading.{at-digits}
use Rattle.ledger.specs.Pairs.{Pairs, none, pair, size, ObeyFrom, join, ends_at_most}
use Rattle.ledger.specs.Ledger.{largest, length_wrong, obeys, pairs_of, capacity}
use Rattle.ledger.proofs.LedgerLayout.{rule-ruled, laid_out-pairs_of, size-pairs_of}
use Rattle.ledger.proofs.LedgerSizes.{length-right, length-fits}
use Rattle.rangelists.specs.RangeText.{places, range_of, parts, merged, merge_range, merged_from, ranges_of, read_ranges, read_ranges_after, range_text, ranges_text, write_ranges, write_ranges_after}
use Rattle.rangelists.specs.OneRange.{Position}
use Rattle.rangelists.specs.Parts.{with_commas, NoComma}
use Rattle.rangelists.specs.RangeReading.{Reads}
use Rattle.rangelists.proofs.RangeWriting.{accepted}
use Rattle.rangelists.proofs.OneRange.{range_reads}
use Rattle.rangelists.proofs.RangeReading.{reads}
use Rattle.rangelists.proofs.Parts.{no-comma-cons, no-comma-append, parts-only}

-- ---- one range

digits_decimal : (n : ℕ) → all is_digit (decimal n) ≡ true
unfolding decimal
digits_decimal n = all-in_digits (digit_count n) n

position-decimal : (n : ℕ) → n ≤ 18446744073709551614 → Position (decimal n) n
position-decimal n h =
    let l = length-decimal n in
    record {
      shortest = omega (arith, width_some n);
      longest = omega (arith, width-20 n (omega arith));
      digits = at-digits (decimal n) (digits_decimal n);
      value_is = decimal_reads_back n;
      most = h;
    }

pub range-reads-back : (a b : ℕ) → a < b → b ≤ largest → range_of (range_text a b) ≡ places a b
unfolding range_text
range-reads-back a b h l =
    let e : suc (b - 1) ≡ b = omega arith in
    let start = position-decimal a (omega arith) in
    let end = position-decimal (b - 1) (omega arith) in
    range_reads (range_text a b) a (b - 1)
    (record { before = decimal a; after = decimal (b - 1); hyphen = refl; start = start; end = end; rising = omega arith })
    ∙ rw e

-- ---- the texts between the commas

decimal-no-comma : (n : ℕ) → NoComma (decimal n)
decimal-no-comma n i h e = omega (arith, e, at-digits (decimal n) (digits_decimal n) i h)

range-no-comma : (a b : ℕ) → NoComma (range_text a b)
unfolding range_text
range-no-comma a b =
    no-comma-append (decimal a) (45 ∷ decimal (b - 1)) (decimal-no-comma a) (no-comma-cons 45 (decimal (b - 1)) (λ e. omega arith) (decimal-no-comma (b - 1)))

-- the text of each pair
unfoldable texts_of : Pairs → List (List ℕ)
texts_of none = []
texts_of (pair a b ps) = range_text a b ∷ texts_of ps

texts-no-comma : (ps : Pairs) → AllHold NoComma (texts_of ps)
unfolding texts_of
texts-no-comma none = tt
texts-no-comma (pair a b ps) = (range-no-comma a b, texts-no-comma ps)

texts-joined : (ps : Pairs) → ranges_text ps ≡ with_commas (texts_of ps)
unfolding ranges_text texts_of with_commas
texts-joined none = refl
texts-joined (pair a b none) = refl
texts-joined (pair a b (pair c d ps)) = ap (λ (t : List ℕ). range_text a b ++ (44 ∷ t)) (texts-joined (pair c d ps))

length-texts : (ps : Pairs) → length (texts_of ps) ≡ size ps
unfolding texts_of size
length-texts none = refl
length-texts (pair a b ps) = ap suc (length-texts ps)

parts-texts : (ps : Pairs) → 0 < size ps → parts (ranges_text ps) ≡ texts_of ps
parts-texts ps h = rw (texts-joined ps) (parts-only (texts_of ps) (omega (arith, length-texts ps)) (texts-no-comma ps))

-- ---- ascending ranges joined one by one

-- pairs after others
unfoldable chain : Pairs → Pairs → Pairs
chain none ps = ps
chain (pair a b qs) ps = pair a b (chain qs ps)

chain-none : (qs : Pairs) → chain qs none ≡ qs
unfolding chain
chain-none none = refl
chain-none (pair a b qs) = rw (chain-none qs)

chain-chain : (qs ps : Pairs) (a b : ℕ) → chain (chain qs (pair a b none)) ps ≡ chain qs (pair a b ps)
unfolding chain
chain-chain none ps a b = refl
chain-chain (pair c d qs) ps a b = rw (chain-chain qs ps a b)

size-chain : (qs ps : Pairs) → size (chain qs ps) ≡ size qs + size ps
unfolding chain size
size-chain none ps = omega arith
size-chain (pair a b qs) ps = omega (arith, size-chain qs ps)

chain-above : (lo a b : ℕ) (qs ps : Pairs) → ObeyFrom lo (chain qs (pair a b ps)) → (lo ≤ a) × (a < b)
unfolding chain
chain-above lo a b none ps c = (c.0, c.1)
chain-above lo a b (pair x y qs) ps c =
    let i = chain-above (suc y) a b qs ps c.2 in
    (omega (arith, c.0, c.1, i.0), i.1)

-- a range above all pairs comes after them
join_last : (lo a b : ℕ) (qs ps : Pairs) → ObeyFrom lo (chain qs (pair a b ps)) → join a b qs ≡ chain qs (pair a b none)
unfolding chain join
join_last lo a b none ps c = refl
join_last lo a b (pair x y qs) ps c =
    let i = chain-above (suc y) a b qs ps c.2 in
    rw (le-ltb b x (omega (arith, c.1, i.0, i.1)), lt-ltb y a i.0, join_last (suc y) a b qs ps c.2)

merged-chain : (r : ℕ) (qs ps : Pairs) → ObeyFrom 0 (chain qs ps) → size (chain qs ps) ≤ r → ends_at_most largest ps ≡ true
    → merged_from r qs (texts_of ps) ≡ merged (chain qs ps)
unfolding merged_from texts_of merge_range ends_at_most size
merged-chain r qs none c n f = rw (chain-none qs)
merged-chain r qs (pair a b ps) c n f =
    let q = (and-eq-true_iff (leb b largest) (ends_at_most largest ps)).0 f in
    let i = chain-above 0 a b qs ps c in
    let j = join_last 0 a b qs ps c in
    let e = chain-chain qs ps a b in
    let k : size (chain qs (pair a b none)) ≤ r = omega (arith, n, size-chain qs (pair a b none), size-chain qs (pair a b ps)) in
    rw (range-reads-back a b i.1 (leb-true b largest q.0), j, le-ltb r (size (chain qs (pair a b none))) k)
    (merged-chain r (chain qs (pair a b none)) ps (rw e c) (rw e n) q.1 ∙ rw e)

-- ---- the text that the writer left

text-back : (ps : Pairs) (m : List ℕ) → 0 < size ps → ObeyFrom 0 ps → ends_at_most largest ps ≡ true → length_wrong m ≡ false → size ps ≤ capacity m
    → Reads (ranges_text ps) m ps
unfolding ranges_of chain
text-back ps m some ruled ends lengths room =
    reads (ranges_text ps) m lengths ps (rw (parts-texts ps some) (merged-chain (capacity m) none ps ruled room ends))

pub reads-back : (l out m : List ℕ) (n : ℕ) → write_ranges l out ≡ Ok n → ends_at_most largest (pairs_of l) ≡ true → length_wrong m ≡ false → size (pairs_of l) ≤ capacity m
    → Reads (take n (write_ranges_after l out)) m (pairs_of l)
unfolding obeys
reads-back l out m n e ends lengths room =
    let w = accepted l out n e in
    let text = ranges_text (pairs_of l) in
    rw (w.after, take_at text (drop (length text) out) n w.bytes) (text-back (pairs_of l) m w.some (rule-ruled 0 l w.ruled) ends lengths room)

pub reads_same : (l out m : List ℕ) (n : ℕ) → write_ranges l out ≡ Ok n → ends_at_most largest (pairs_of l) ≡ true → length m ≡ length l
    → (read_ranges (take n (write_ranges_after l out)) m ≡ Ok tt) × (read_ranges_after (take n (write_ranges_after l out)) m ≡ l)
unfolding obeys
reads_same l out m n e ends same =
    let w = accepted l out n e in
    let f = length-fits l w.lengths in
    let lengths : length_wrong m ≡ false = length-right m (omega (arith, f.0)) (omega (arith, f.1)) in
    let r = reads-back l out m n e ends lengths (omega (arith, size-pairs_of l)) in
    (r.accepted, r.after ∙ sym (laid_out-pairs_of (capacity m) 0 l w.ruled (omega (arith, f.0))))
