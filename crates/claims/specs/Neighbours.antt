-- A range judged from its place (document 02, Item 2): by the pair there, the one after it and the ledger's last pair.
use Rattle.std.specs.Prelude.{ℕ, ◌+◌, ◌*◌, Bool, cond, Result, Ok, Err, ◌&&◌, ◌||◌, List, leb, ltb, eqb, get_or}
use Rattle.claims.specs.Claim.{shares_number, full_number}
use Rattle.claims.specs.declared.claim.Slot.{Slot}

-- a pair as it is read: its two entries, 0 and 0 past the last pair
pub record Pair : Type 0 where
  pub start : ℕ
  pub end : ℕ

abbrev pub pair_at : List ℕ → ℕ → Pair
pair_at ledger i = record { start = get_or ledger (2 * i) 0; end = get_or ledger (2 * i + 1) 0 }

-- it shares a place with the range from s to e
unfoldable pub shared_by : ℕ → ℕ → Pair → Bool
shared_by s e p = ltb s p.end && ltb p.start e

-- it is used and starts at e or before
unfoldable pub starts_by : ℕ → Pair → Bool
starts_by e p = ltb 0 p.end && leb p.start e

-- a range to e that shares no place, with its place `at`, becomes one with the pair there and the one after it, with the first alone, or with none
unfoldable pub slot_by : ℕ → ℕ → Pair → Pair → Slot
slot_by e at here next = record { at = at; past = cond (starts_by e here) (at + cond (starts_by e next) 2 1) at }

-- a ledger of r pairs lacks one for a range that goes there
unfoldable pub lacks_pair : ℕ → Slot → Pair → Bool
lacks_pair r slot last = eqb slot.at slot.past && (eqb r 0 || ltb 0 last.end)

-- 17, then 18, then where it goes
unfoldable pub judged_by : ℕ → ℕ → ℕ → ℕ → Pair → Pair → Pair → Result Slot ℕ
judged_by r s e at here next last =
    let slot = slot_by e at here next in
    cond (shared_by s e here || shared_by s e next) (Err shares_number) (cond (lacks_pair r slot last) (Err full_number) (Ok slot))
