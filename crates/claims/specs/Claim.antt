-- Claiming a range in a ledger: where it goes, whether there is room, and what the ledger is with it.
--
--     pairs that end below its start   those it shares a place with or touches   pairs that start above its end
--     0 .. at                          at .. past                                past ..
use Rattle.std.specs.Prelude.{ℕ, ◌≤◌, ◌<◌, ◌≡◌, ◌⊎◌, ◌↔◌, true, cond, Result, Ok, Err, List, ltb, length}
use Rattle.answers.specs.Loaded.{Loaded}
use Rattle.ledger.specs.Pairs.{Pairs, size, join, overlaps, count_ending_below, count_starting_by}
use Rattle.ledger.specs.Ledger.{obeys, pairs_of, laid_out, capacity}
use Rattle.claims.specs.declared.claim.Slot.{Slot}

-- the pairs that the range from s to e becomes one with are those from `at` up to `past`
unfoldable pub slot_of : ℕ → ℕ → Pairs → Slot
slot_of s e ps = record { at = count_ending_below s ps; past = count_starting_by e ps }

-- the range shares a place with a claimed one
abbrev pub shares_number : ℕ
shares_number = 17

-- the ledger would need more pairs than it has
abbrev pub full_number : ℕ
full_number = 18

-- 17, then 18, then where it goes
unfoldable pub judged : ℕ → ℕ → ℕ → Pairs → Result Slot ℕ
judged r s e ps = cond (overlaps s e ps) (Err shares_number) (cond (ltb r (size (join s e ps))) (Err full_number) (Ok (slot_of s e ps)))

-- ---- what the calls answer and leave
--
-- The fields that ask for a ledger that obeys the rule and for s < e say all of it. Any other call is left open, but for the fields that ask for neither:
-- document 01 has no such call, since each of its entries has tested, zeroed or overwritten the ledger, and no range there is empty.

-- whether the range from s to e can be claimed in the ledger is answered with r
pub record JudgeResult (s e : ℕ) (ledger : List ℕ) (r : Result Slot ℕ) : Type 0 where
  pub by_rule : obeys ledger ≡ true → s < e → r ≡ judged (capacity ledger) s e (pairs_of ledger)
  -- a slot lies inside any ledger
  pub slot_inside : (slot : Slot) → r ≡ Ok slot → (slot.at ≤ slot.past) × (slot.past ≤ capacity ledger)
  -- in no ledger is a range refused by a third number
  pub refused_by : (k : ℕ) → r ≡ Err k → (k ≡ shares_number) ⊎ (k ≡ full_number)

-- the ledger l is m once the range from s to e is put at the slot
pub record PutResult (slot : Slot) (s e : ℕ) (l m : List ℕ) : Type 0 where
  pub by_rule : obeys l ≡ true → s < e → judged (capacity l) s e (pairs_of l) ≡ Ok slot → m ≡ laid_out (capacity l) (join s e (pairs_of l))
  pub same_length : length m ≡ length l

-- the range from s to e was joined to the ledger l, or it was not, and the ledger is m
pub record JoinResult (s e : ℕ) (l : List ℕ) (answer : Loaded) (m : List ℕ) : Type 0 where
  pub done_where : obeys l ≡ true → s < e → (answer ≡ Ok tt) ↔ (size (join s e (pairs_of l)) ≤ capacity l)
  pub by_rule : obeys l ≡ true → s < e → answer ≡ Ok tt → m ≡ laid_out (capacity l) (join s e (pairs_of l))
  -- what is not done is refused by 52, and changes nothing in any ledger
  pub refused_by : (k : ℕ) → answer ≡ Err k → k ≡ 52
  pub unchanged : (k : ℕ) → answer ≡ Err k → m ≡ l
  pub same_length : length m ≡ length l
