-- Moving the entries of a list.
use Rattle.std.specs.Prelude.{ℕ, ◌+◌, ◌-◌, List, ◌∷◌, ◌++◌, take, drop, replicate}

-- a pair put at `at`, with the entries up to `end` moved up by two and the two from there on given up
unfoldable pub inserted : List ℕ → ℕ → ℕ → ℕ → ℕ → List ℕ
inserted l at end a b = take at l ++ (a ∷ b ∷ (take (end - at) (drop at l) ++ drop (end + 2) l))

-- the entries from `from` up to `end` moved down to `to`, with zeros in the entries that they left
unfoldable pub closed : List ℕ → ℕ → ℕ → ℕ → List ℕ
closed l to from end = take to l ++ (take (end - from) (drop from l) ++ (replicate (from - to) 0 ++ drop end l))
