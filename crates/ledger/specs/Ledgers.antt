-- What a ledger means, a field for each sentence (document 01, "The ledger").
use Rattle.std.specs.Prelude.{ℕ, zero, suc, ◌+◌, ◌*◌, ◌-◌, ◌%◌, ◌≤◌, ◌<◌, max, ◌≡◌, ◌↔◌, ◌≢◌, true, false, List, length, get_or}
use Rattle.ledger.specs.Pairs.{Pairs, size, total, in_range, contains, ObeyFrom, join, overlaps, inside, all_inside, ends_at_most}
use Rattle.ledger.specs.Ledger.{length_wrong, obeys, pairs_of, has_pair, Contains}

-- the ledger rule in document 01's words, for a ledger of r pairs
pub record Obeys (r : ℕ) (l : List ℕ) : Type 0 where
  -- how many pairs are used: they come first
  pub used : ℕ
  pub room : used ≤ r
  pub ordered : (i : ℕ) → i < used → get_or l (2 * i) 0 < get_or l (2 * i + 1) 0
  pub apart : (i : ℕ) → suc i < used → get_or l (2 * i + 1) 0 < get_or l (2 * suc i) 0
  pub zero_after : (j : ℕ) → 2 * used ≤ j → get_or l j 0 ≡ 0

-- how many of the places below f are held
unfoldable pub count_below : ℕ → Pairs → ℕ
count_below zero ps = 0
count_below (suc f) ps = contains f ps + count_below f ps

pub record Ledgers : Type 0 where
  -- a ledger's length is right where it is even and at most 8,192 entries
  pub lengths : (l : List ℕ) → (length_wrong l ≡ false) ↔ ((length l % 2 ≡ 0) × (length l ≤ 8192))
  -- the test is the rule
  pub test_is_rule : (r : ℕ) (l : List ℕ) → length l ≡ 2 * r → (obeys l ≡ true) ↔ Obeys r l
  -- an odd number of entries breaks it, whatever they are
  pub odd_breaks : (l : List ℕ) → length l % 2 ≢ 0 → obeys l ≡ false
  -- the places of the used pairs are those that the ledger holds
  pub contains_places : (p : ℕ) (l : List ℕ) → obeys l ≡ true → (contains p (pairs_of l) ≡ 1) ↔ Contains p l
  -- of all ledgers of its length that obey the rule it is the only one with its places
  pub only_one : (r : ℕ) (l m : List ℕ) → length l ≡ 2 * r → length m ≡ 2 * r → obeys l ≡ true → obeys m ≡ true → ((p : ℕ) → Contains p l ↔ Contains p m) → l ≡ m
  -- its number of bytes is the number of places that it holds
  pub bytes_are_places : (f : ℕ) (ps : Pairs) → ObeyFrom 0 ps → ends_at_most f ps ≡ true → total ps ≡ count_below f ps
  -- a range joined to it: the union, by the rule, with at most one pair more; and no other list by the rule has these places
  pub join_union : (s e p : ℕ) (ps : Pairs) → s < e → ObeyFrom 0 ps → contains p (join s e ps) ≡ max (in_range s e p) (contains p ps)
  pub join_obeys : (s e : ℕ) (ps : Pairs) → s < e → ObeyFrom 0 ps → ObeyFrom 0 (join s e ps)
  pub join_needs : (s e : ℕ) (ps : Pairs) → size (join s e ps) ≤ suc (size ps)
  pub join_only : (s e : ℕ) (ps qs : Pairs) → s < e → ObeyFrom 0 ps → ObeyFrom 0 qs → ((p : ℕ) → contains p qs ≡ max (in_range s e p) (contains p ps)) → qs ≡ join s e ps
  -- a range that shares no place adds its bytes
  pub join_adds : (s e : ℕ) (ps : Pairs) → s < e → ObeyFrom 0 ps → overlaps s e ps ≡ false → total (join s e ps) ≡ (e - s) + total ps
  -- sharing is a common place, and lying inside one pair is that every place is held
  pub overlaps_place : (s e : ℕ) (ps : Pairs) → s < e → ObeyFrom 0 ps → (overlaps s e ps ≡ false) ↔ ((p : ℕ) → in_range s e p + contains p ps ≤ 1)
  pub inside_places : (s e : ℕ) (ps : Pairs) → s < e → ObeyFrom 0 ps → (inside s e ps ≡ true) ↔ ((p : ℕ) → s ≤ p → p < e → contains p ps ≡ 1)
  -- each of its ranges lies inside one of another ledger exactly where each of its places is held there
  pub nested_places : (ds ps : Pairs) → ObeyFrom 0 ds → ObeyFrom 0 ps → (all_inside ds ps ≡ true) ↔ ((p : ℕ) → contains p ds ≤ contains p ps)
  -- it has a used pair exactly where it holds bytes
  pub pair_bytes_is : (l : List ℕ) → obeys l ≡ true → (has_pair l ≡ true) ↔ (0 < total (pairs_of l))
