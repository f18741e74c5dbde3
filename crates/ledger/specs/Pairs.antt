-- Sets of places as pairs (start, end), the end not counted.
use Rattle.std.specs.Prelude.{ℕ, suc, ◌+◌, ◌-◌, ◌≤◌, ◌<◌, min, max, Bool, true, false, cond, ◌&&◌, ◌||◌, leb, ltb}

pub data Pairs : Type 0 where
  none : Pairs
  pair : ℕ → ℕ → Pairs → Pairs

-- how many pairs there are
unfoldable pub size : Pairs → ℕ
size none = 0
size (pair a b ps) = suc (size ps)

-- how many places they hold, pair by pair
unfoldable pub total : Pairs → ℕ
total none = 0
total (pair a b ps) = (b - a) + total ps

-- 1 where the place p lies from a up to b, b not counted, and 0 elsewhere
unfoldable pub in_range : ℕ → ℕ → ℕ → ℕ
in_range a b p = cond (leb a p && ltb p b) 1 0

-- 1 where one of the pairs holds the place p, and 0 where none does
unfoldable pub contains : ℕ → Pairs → ℕ
contains p none = 0
contains p (pair a b ps) = max (in_range a b p) (contains p ps)

-- the ledger rule for pairs from the place lo on: start < end, and each end less than the next start
abbrev pub ObeyFrom : ℕ → Pairs → Type 0
ObeyFrom lo none = Unit {0}
ObeyFrom lo (pair a b ps) = (lo ≤ a) × (a < b) × ObeyFrom (suc b) ps

-- the same as a test
unfoldable pub obey_from : ℕ → Pairs → Bool
obey_from lo none = true
obey_from lo (pair a b ps) = leb lo a && (ltb a b && obey_from (suc b) ps)

-- the range from s to e joined to the pairs: those that it shares a place with or touches become one with it
unfoldable pub join : ℕ → ℕ → Pairs → Pairs
join s e none = pair s e none
join s e (pair a b ps) =
    let following = join s e ps in
    let wider = join (min s a) (max e b) ps in
    cond (ltb e a) (pair s e (pair a b ps)) (cond (ltb b s) (pair a b following) wider)

-- the range from s to e shares a place with one of the pairs
unfoldable pub overlaps : ℕ → ℕ → Pairs → Bool
overlaps s e none = false
overlaps s e (pair a b ps) = (ltb s b && ltb a e) || overlaps s e ps

-- the range from s to e lies inside one of the pairs
unfoldable pub inside : ℕ → ℕ → Pairs → Bool
inside s e none = false
inside s e (pair a b ps) = (leb a s && leb e b) || inside s e ps

-- each of the pairs ds lies inside one of the pairs ps
unfoldable pub all_inside : Pairs → Pairs → Bool
all_inside none ps = true
all_inside (pair a b ds) ps = inside a b ps && all_inside ds ps

-- no end is above f
unfoldable pub ends_at_most : ℕ → Pairs → Bool
ends_at_most f none = true
ends_at_most f (pair a b ps) = leb b f && ends_at_most f ps

-- the number of pairs, from the first on, that end below s
unfoldable pub count_ending_below : ℕ → Pairs → ℕ
count_ending_below s none = 0
count_ending_below s (pair a b ps) = cond (ltb b s) (suc (count_ending_below s ps)) 0

-- the number of pairs, from the first on, that start at e or before
unfoldable pub count_starting_by : ℕ → Pairs → ℕ
count_starting_by e none = 0
count_starting_by e (pair a b ps) = cond (leb a e) (suc (count_starting_by e ps)) 0
