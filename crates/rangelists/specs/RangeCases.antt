-- Worked cases of range lists that are not in the proved set, as one statement over a list of cases.
use Rattle.std.specs.Prelude.{ℕ, ◌*◌, ◌≡◌, Ok, Err, List, [], ◌∷◌, replicate}
use Rattle.octets.specs.Cases.{AllHold}
use Rattle.rangelists.specs.RangeText.{read_ranges, read_ranges_after}

pub data Case : Type 0 where
  -- in a ledger of r pairs the text gives these entries
  gives : ℕ → List ℕ → List ℕ → Case
  -- in a ledger of r pairs the text is refused with this number
  refused : ℕ → List ℕ → ℕ → Case

-- a lent ledger of r pairs is full of sevens, of which nothing stays
abbrev pub sevens : ℕ → List ℕ
sevens r = replicate (2 * r) 7

abbrev pub Holds : Case → Type 0
Holds (gives r text ledger) = (read_ranges text (sevens r) ≡ Ok tt) × (read_ranges_after text (sevens r) ≡ ledger)
Holds (refused r text k) = (read_ranges text (sevens r) ≡ Err k) × (read_ranges_after text (sevens r) ≡ replicate (2 * r) 0)

-- in this order: none · 0-0,1-1,2-2 · 0-1,5-6x · 0-1,5-6,x · 0-0,2-2,1-1
abbrev pub cases : List Case
cases =
    refused 1 [] 51
    ∷ gives 1 (48 ∷ 45 ∷ 48 ∷ 44 ∷ 49 ∷ 45 ∷ 49 ∷ 44 ∷ 50 ∷ 45 ∷ 50 ∷ []) (0 ∷ 3 ∷ [])
    ∷ refused 1 (48 ∷ 45 ∷ 49 ∷ 44 ∷ 53 ∷ 45 ∷ 54 ∷ 120 ∷ []) 51
    ∷ refused 1 (48 ∷ 45 ∷ 49 ∷ 44 ∷ 53 ∷ 45 ∷ 54 ∷ 44 ∷ 120 ∷ []) 52
    ∷ refused 1 (48 ∷ 45 ∷ 48 ∷ 44 ∷ 50 ∷ 45 ∷ 50 ∷ 44 ∷ 49 ∷ 45 ∷ 49 ∷ []) 52
    ∷ []

abbrev pub RangeCases : Type 0
RangeCases = AllHold Holds cases
