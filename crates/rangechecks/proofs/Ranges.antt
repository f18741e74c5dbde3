-- Ranges compared one by one.
use Prim.Native.Nat.{ℕ, ◌-◌, ◌≤◌, ◌<◌}
use mathlib.Core.Path.{◌≡◌, refl, ap}
use mathlib.Core.Bool.{Bool, true, ◌&&◌}
use mathlib.Core.List.{List, [], ◌∷◌}
use native.Mathlib.Omega.{arith}
use lib.ListN.{length, get_or, take, drop}
use lib.Seq.{take_all}
use Rattle.std.specs.List.{list_all}
use Rattle.rangechecks.specs.Ranges.{disjoint, disjoint_from, all_disjoint, starts, lengths}
use Rattle.rangechecks.specs.declared.disjoint.Range.{Range}

-- a range and x places from a on
abbrev pub apart : ℕ → ℕ → Range → Bool
apart a x r = disjoint a x r.start r.length

pub all-apart : (a x : ℕ) (rs : List Range) → list_all (apart a x) rs ≡ disjoint_from a x (starts rs) (lengths rs)
unfolding disjoint_from
all-apart a x [] = refl
all-apart a x (r ∷ rs) = ap (λ b. apart a x r && b) (all-apart a x rs)

-- any two of the ranges
abbrev pub any_two : List Range → Bool
any_two rs = all_disjoint (starts rs) (lengths rs)

-- those after the first
abbrev pub after : List Range → List Range
after l = take (length l - 1) (drop 1 l)

pub first-and-rest : (d : Range) (l : List Range) → 1 ≤ length l
    → any_two l ≡ (disjoint_from (get_or l 0 d).start (get_or l 0 d).length (starts (after l)) (lengths (after l)) && any_two (after l))
unfolding all_disjoint
first-and-rest d [] h = absurd (omega arith)
first-and-rest d (r ∷ rs) h = let e : after (r ∷ rs) ≡ rs = take_all (length (r ∷ rs) - 1) rs (omega arith) in rw e

pub none-left : (l : List Range) → length l < 1 → true ≡ any_two l
unfolding all_disjoint
none-left [] h = refl
none-left (r ∷ rs) h = absurd (omega arith)
