-- Restart range lists (document 01, "Control lines"): a-b with commas between, both ends counted, in any order, overlapping or repeated.
use Rattle.std.specs.Prelude.{ℕ, suc, ◌+◌, ◌-◌, ◌<◌, max, ◌≡◌, Bool, true, false, cond, ◌&&◌, ◌||◌, Option, Some, None, Ok, Err, List, [], ◌∷◌, ◌++◌, leb, ltb, eqb, length, get_or, take, drop, replicate}
use Rattle.octets.specs.Decimal.{decimal_value, decimal}
use Rattle.texts.specs.Text.{is_digit, all, leading_count}
use Rattle.answers.specs.Loaded.{Loaded}
use Rattle.answers.specs.Written.{Written, first_refusal, room_refusal, written_by, written_after}
use Rattle.ledger.specs.Pairs.{Pairs, none, pair, size, in_range, join}
use Rattle.ledger.specs.Ledger.{length_wrong, obeys, ledger_refusal, pairs_of, laid_out, capacity}
use Rattle.rangelists.specs.declared.ranges.Range.{Range}

-- the largest end, 2 ^ 64 - 2: the place after it is a 64-bit number
abbrev pub last_limit : ℕ
last_limit = 18446744073709551614

-- the most digits that a number may have, leading zeros counted
abbrev pub digit_limit : ℕ
digit_limit = 20

-- ---- one range

-- a number of 1 to 20 digits, at most the largest end
unfoldable pub is_position : List ℕ → Bool
is_position text = (leb 1 (length text) && leb (length text) digit_limit) && (all is_digit text && leb (decimal_value text) last_limit)

-- what reading such a number answers
unfoldable pub position_of : List ℕ → Option ℕ
position_of text = cond (is_position text) (Some (decimal_value text)) None

-- what is well formed: the places from start up to end
abbrev pub places : ℕ → ℕ → Option Range
places start end = Some (record { start = start; end = end })

-- all the text between two commas: a number, a hyphen, and a number that is no less. It holds the places from the first up to the second.
unfoldable pub range_of : List ℕ → Option Range
range_of text =
    let k = leading_count is_digit text in
    let a = take k text in
    let b = drop (suc k) text in
    cond (is_position a && (eqb (get_or text k 0) 45 && (is_position b && leb (decimal_value a) (decimal_value b)))) (places (decimal_value a) (suc (decimal_value b))) None

-- ---- the list

-- the first text, with a byte before it
unfoldable pub prepend_to_first : ℕ → List (List ℕ) → List (List ℕ)
prepend_to_first b [] = (b ∷ []) ∷ []
prepend_to_first b (t ∷ ts) = (b ∷ t) ∷ ts

-- the texts between the commas, one more than there are commas
unfoldable pub parts : List ℕ → List (List ℕ)
parts [] = [] ∷ []
parts (b ∷ bs) = cond (eqb b 44) ([] ∷ parts bs) (prepend_to_first b (parts bs))

unfoldable pub is_malformed : Option Range → Bool
is_malformed None = true
is_malformed (Some range) = false

-- one of the texts is malformed
unfoldable pub some_malformed : List (List ℕ) → Bool
some_malformed [] = false
some_malformed (t ∷ ts) = is_malformed (range_of t) || some_malformed ts

-- how many of the texts are ranges
unfoldable pub ranges_among : List (List ℕ) → ℕ
ranges_among [] = 0
ranges_among (t ∷ ts) = cond (is_malformed (range_of t)) 0 1 + ranges_among ts

-- of a list's text: whether one of its ranges is malformed, and how many are not
unfoldable pub has_malformed : List ℕ → Bool
has_malformed text = some_malformed (parts text)

unfoldable pub range_count : List ℕ → ℕ
range_count text = ranges_among (parts text)

-- what a list says: the merged set, or the number of the first trouble in reading order
pub data Merged : Type 0 where
  merged : Pairs → Merged
  trouble : ℕ → Merged

-- one range more: 51 where it is malformed, then 52 where the merged set so far needs more than r pairs
unfoldable pub merge_range : ℕ → Pairs → Option Range → (Pairs → Merged) → Merged
merge_range r ps None on = trouble 51
merge_range r ps (Some range) on = cond (ltb r (size (join range.start range.end ps))) (trouble 52) (on (join range.start range.end ps))

unfoldable pub merged_from : ℕ → Pairs → List (List ℕ) → Merged
merged_from r ps [] = merged ps
merged_from r ps (t ∷ ts) = merge_range r ps (range_of t) (λ qs. merged_from r qs ts)

-- how the reader's steps answer it: 0 with the merged set in the ledger, or the number of the trouble
pub record Represents (m : Merged) (k : ℕ) (ledger : List ℕ) : Type 0 where
  pub done : k ≡ 0 → (obeys ledger ≡ true) × (m ≡ merged (pairs_of ledger))
  pub stopped : 0 < k → m ≡ trouble k

unfoldable pub ranges_of : ℕ → List ℕ → Merged
ranges_of r text = merged_from r none (parts text)

-- 1 where the range holds the place p, and 0 where it does not
unfoldable pub range_contains : ℕ → Option Range → ℕ
range_contains p None = 0
range_contains p (Some range) = in_range range.start range.end p

-- 1 where one of the texts is a range that holds the place p, and 0 where none is
unfoldable pub list_contains : ℕ → List (List ℕ) → ℕ
list_contains p [] = 0
list_contains p (t ∷ ts) = max (range_contains p (range_of t)) (list_contains p ts)

-- ---- the reader: 53, then the first trouble; what it leaves in the ledger

unfoldable pub loaded : Merged → Loaded
loaded (merged ps) = Ok tt
loaded (trouble k) = Err k

unfoldable pub entries_after : ℕ → ℕ → Merged → List ℕ
entries_after n r (merged ps) = laid_out r ps
entries_after n r (trouble k) = replicate n 0

unfoldable pub read_ranges : List ℕ → List ℕ → Loaded
read_ranges text ledger = cond (length_wrong ledger) (Err 53) (loaded (ranges_of (capacity ledger) text))

unfoldable pub read_ranges_after : List ℕ → List ℕ → List ℕ
read_ranges_after text ledger = cond (length_wrong ledger) ledger (entries_after (length ledger) (capacity ledger) (ranges_of (capacity ledger) text))

-- ---- the writer: ascending pairs without leading zeros

-- pairs as the code holds them, a list of two numbers each
unfoldable pub pairs_in : List (List ℕ) → Pairs
pairs_in [] = none
pairs_in (p ∷ ps) = pair (get_or p 0 0) (get_or p 1 0) (pairs_in ps)

-- these are the used pairs, no end of which is 0
pub record IsUsed (pairs : List (List ℕ)) (used : Pairs) : Type 0 where
  pub are : pairs_in pairs ≡ used
  pub ends : (i : ℕ) → i < length pairs → 0 < get_or (get_or pairs i []) 1 0

unfoldable pub range_text : ℕ → ℕ → List ℕ
range_text a b = decimal a ++ (45 ∷ decimal (b - 1))

unfoldable pub ranges_text : Pairs → List ℕ
ranges_text none = []
ranges_text (pair a b none) = range_text a b
ranges_text (pair a b (pair c d ps)) = range_text a b ++ (44 ∷ ranges_text (pair c d ps))

-- what is between n bytes and the next range: a comma, unless it is the first
unfoldable pub separator_after : ℕ → List ℕ
separator_after n = cond (eqb n 0) [] (44 ∷ [])

-- 53, 1 where the ledger breaks its rule, 54 where it is empty, 55 where the lent bytes are too few; 0 where it writes
unfoldable pub write_ranges_refusal : List ℕ → List ℕ → ℕ
write_ranges_refusal ledger out =
    first_refusal (ledger_refusal ledger) (cond (eqb (size (pairs_of ledger)) 0) 54 (room_refusal (length (ranges_text (pairs_of ledger))) out))

unfoldable pub write_ranges : List ℕ → List ℕ → Written
write_ranges ledger out = written_by (write_ranges_refusal ledger out) (length (ranges_text (pairs_of ledger)))

unfoldable pub write_ranges_after : List ℕ → List ℕ → List ℕ
write_ranges_after ledger out = written_after (write_ranges_refusal ledger out) (ranges_text (pairs_of ledger)) out
