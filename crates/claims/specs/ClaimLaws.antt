-- What the judgement of a range and its slot mean, a field for each sentence.
use Rattle.std.specs.Prelude.{ℕ, ◌+◌, ◌*◌, ◌-◌, ◌≤◌, ◌<◌, ◌≡◌, ◌↔◌, true, false, Ok, Err, List, get_or}
use Rattle.answers.specs.Refusal.{number_in}
use Rattle.ledger.specs.Pairs.{Pairs, size, join, overlaps, count_ending_below}
use Rattle.ledger.specs.Ledger.{obeys, pairs_of, laid_out, capacity}
use Rattle.claims.specs.Claim.{slot_of, judged, JoinResult}
use Rattle.claims.specs.Neighbours.{pair_at, judged_by}

pub record ClaimLaws : Type 0 where
  -- 17: the range shares a place with a claimed one
  pub number_17 : (r s e : ℕ) (ps : Pairs) → (number_in (judged r s e ps) ≡ 17) ↔ (overlaps s e ps ≡ true)
  -- 18: it shares none, and the ledger with it would need more than r pairs
  pub number_18 : (r s e : ℕ) (ps : Pairs) → (number_in (judged r s e ps) ≡ 18) ↔ ((overlaps s e ps ≡ false) × (r < size (join s e ps)))
  -- no fault: it shares none, and there are enough pairs; it goes to its slot
  pub number_0 : (r s e : ℕ) (ps : Pairs) → (number_in (judged r s e ps) ≡ 0) ↔ ((overlaps s e ps ≡ false) × (size (join s e ps) ≤ r))
  pub accepted : (r s e : ℕ) (ps : Pairs) → number_in (judged r s e ps) ≡ 0 → judged r s e ps ≡ Ok (slot_of s e ps)
  -- in a ledger that obeys the rule the pairs before the slot end below s
  pub before_slot : (s e i : ℕ) (l : List ℕ) → obeys l ≡ true → i < (slot_of s e (pairs_of l)).at → get_or l (2 * i + 1) 0 < s
  -- those of the slot share a place with the range or touch it
  pub in_slot : (s e i : ℕ) (l : List ℕ) → obeys l ≡ true → (slot_of s e (pairs_of l)).at ≤ i → i < (slot_of s e (pairs_of l)).past
      → (s ≤ get_or l (2 * i + 1) 0) × (get_or l (2 * i) 0 ≤ e)
  -- the used ones after it start above e
  pub after_slot : (s e i : ℕ) (l : List ℕ) → obeys l ≡ true → (slot_of s e (pairs_of l)).past ≤ i → i < size (pairs_of l) → e < get_or l (2 * i) 0
  -- the slot lies inside the ledger
  pub slot_inside : (s e : ℕ) (l : List ℕ) → obeys l ≡ true → s < e
      → ((slot_of s e (pairs_of l)).at ≤ (slot_of s e (pairs_of l)).past) × ((slot_of s e (pairs_of l)).past ≤ capacity l)
  -- the pair at its place, the one after it and the ledger's last pair decide 17, 18 and which pairs it becomes one with
  pub neighbours : (s e : ℕ) (l : List ℕ) → obeys l ≡ true → s < e
      → judged (capacity l) s e (pairs_of l) ≡ judged_by (capacity l) s e (count_ending_below s (pairs_of l)) (pair_at l (count_ending_below s (pairs_of l))) (pair_at l (count_ending_below s (pairs_of l) + 1)) (pair_at l (capacity l - 1))
  -- a range joined to a ledger that obeys the rule leaves one ledger; one that was not joined leaves any ledger as it was
  pub joined : (s e : ℕ) (l m : List ℕ) → obeys l ≡ true → s < e → JoinResult s e l (Ok tt) m → m ≡ laid_out (capacity l) (join s e (pairs_of l))
  pub not_joined : (s e k : ℕ) (l m : List ℕ) → JoinResult s e l (Err k) m → m ≡ l
