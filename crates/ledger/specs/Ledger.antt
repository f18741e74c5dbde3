-- The ledger (document 01, "The ledger"): a lent run of numbers, R pairs (start, end), the used ones first and zeros after them.
use Rattle.std.specs.Prelude.{ℕ, zero, suc, ◌+◌, ◌*◌, ◌/◌, ◌%◌, ◌≤◌, ◌<◌, Bool, true, false, cond, ◌&&◌, ◌||◌, not, List, [], ◌∷◌, leb, ltb, eqb, length, get_or}
use Rattle.ledger.specs.Pairs.{Pairs, none, pair}

-- the most entries that a ledger may have
abbrev pub entry_limit : ℕ
entry_limit = 8192

-- the largest number that an entry can be
abbrev pub largest : ℕ
largest = 18446744073709551615

-- 53: an odd number of entries, or too many
unfoldable pub length_wrong : List ℕ → Bool
length_wrong ledger = not (eqb (length ledger % 2) 0) || ltb entry_limit (length ledger)

abbrev pub capacity : List ℕ → ℕ
capacity ledger = length ledger / 2

unfoldable pub all_zero : List ℕ → Bool
all_zero [] = true
all_zero (x ∷ xs) = eqb x 0 && all_zero xs

-- the ledger rule from the place lo on: used pairs first, each with start < end and its end less than the next start; then zeros.
-- A pair is used unless both entries are 0. The zeros are pairs too: an odd number of entries breaks the rule.
unfoldable pub obeys_from : ℕ → List ℕ → Bool
obeys_from lo [] = true
obeys_from lo (a ∷ []) = false
obeys_from lo (a ∷ b ∷ rest) =
    let following = obeys_from (suc b) rest in
    cond (eqb b 0) (eqb a 0 && (all_zero rest && eqb (length rest % 2) 0)) (leb lo a && (ltb a b && following))

unfoldable pub obeys : List ℕ → Bool
obeys ledger = obeys_from 0 ledger

-- the number by which a ledger that is to be written is refused: 53 for its length, 1 for its rule, 0 where it is accepted
unfoldable pub ledger_refusal : List ℕ → ℕ
ledger_refusal ledger = cond (length_wrong ledger) 53 (cond (not (obeys ledger)) 1 0)

-- the used pairs: in any list, those before the first whose end is 0
unfoldable pub pairs_of : List ℕ → Pairs
pairs_of [] = none
pairs_of (a ∷ []) = none
pairs_of (a ∷ b ∷ rest) =
    let following = pairs_of rest in
    cond (eqb b 0) none (pair a b following)

-- there is a used one: the end of the first is not 0
unfoldable pub has_pair : List ℕ → Bool
has_pair ledger = ltb 0 (get_or ledger 1 0)

-- a ledger of r pairs with these used ones, and zeros after them
unfoldable pub laid_out : ℕ → Pairs → List ℕ
laid_out zero ps = []
laid_out (suc r) none = 0 ∷ 0 ∷ laid_out r none
laid_out (suc r) (pair a b ps) = a ∷ b ∷ laid_out r ps

-- the place p lies in one of the ledger's pairs
abbrev pub Contains : ℕ → List ℕ → Type 0
Contains p ledger = (i : ℕ) × (get_or ledger (2 * i) 0 ≤ p) × (p < get_or ledger (2 * i + 1) 0)
