-- Ranges given by two lists of numbers, where they start and how long they are: of any two, one ends at or before the start of the other.
use Rattle.std.specs.Prelude.{ℕ, ◌+◌, Bool, true, ◌&&◌, ◌||◌, List, [], ◌∷◌, map, leb}
use Rattle.rangechecks.specs.declared.disjoint.Range.{Range}

-- x places from a on and y places from b on: one range ends at or before the start of the other, so that, where neither is empty, they share no place
abbrev pub disjoint : ℕ → ℕ → ℕ → ℕ → Bool
disjoint a x b y = leb (a + x) b || leb (b + y) a

-- x places from a on, and as many ranges as both lists have numbers for
unfoldable pub disjoint_from : ℕ → ℕ → List ℕ → List ℕ → Bool
disjoint_from a x [] ys = true
disjoint_from a x (b ∷ bs) [] = true
disjoint_from a x (b ∷ bs) (y ∷ ys) = disjoint a x b y && disjoint_from a x bs ys

unfoldable pub all_disjoint : List ℕ → List ℕ → Bool
all_disjoint [] ys = true
all_disjoint (b ∷ bs) [] = true
all_disjoint (b ∷ bs) (y ∷ ys) = disjoint_from b y bs ys && all_disjoint bs ys

-- where ranges start, and how long they are
abbrev pub starts : List Range → List ℕ
starts rs = map (λ (r : Range). r.start) rs

abbrev pub lengths : List Range → List ℕ
lengths rs = map (λ (r : Range). r.length) rs
