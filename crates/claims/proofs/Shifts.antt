-- What a shift of entries by `copy_within` leaves: a pair put into the two that became free, or those that were left cleared.
use Prim.Native.Nat.{ℕ, ◌+◌, ◌-◌, ◌≤◌}
use mathlib.Core.Path.{◌≡◌, ◌∙◌}
use mathlib.Core.List.{List, [], ◌∷◌, ◌++◌, append_assoc}
use native.Mathlib.Omega.{arith}
use native.Mathlib.Numerals.{add-one}
use lib.ListN.{length, set, take, drop, replicate, length-take, length-drop, length-append}
use borrow.Rule.Slice.PartMut.{put_mid}
use lib.Seq.{sets-eq, take-append-le, take-take, drop_at, drop-drop, paste, take-paste, drop-paste}
use Rattle.claims.specs.Shift.{inserted, closed}

-- the entries from i to e moved up by two, and the pair put where they began
pub up-filled : (l : List ℕ) (i e a b : ℕ) → i ≤ e → e + 2 ≤ length l → set (set (paste l (i + 2) (drop i l) (e - i)) i a) (i + 1) b ≡ inserted l i e a b
unfolding inserted
up-filled l i e a b h g =
    let d : i + 2 + (e - i) ≡ e + 2 = omega arith in
    let t = take (e - i) (drop i l) ++ drop (e + 2) l in
    let n : length (take (i + 2) l) ≡ i + 2 = simp length-take (omega arith) in
    let m : i ≤ length (take (i + 2) l) = omega arith in
    let k : i + 2 ≤ length (take (i + 2) l ++ t) = simp length-append (omega arith) in
    let q : i ≤ i + 2 = omega arith in
    let p : paste l (i + 2) (drop i l) (e - i) ≡ take (i + 2) l ++ t = append_assoc (take (i + 2) l) (take (e - i) (drop i l)) (drop (i + 2 + (e - i)) l) ∙ rw d in
    rw (p, add-one i)
    (sets-eq (a ∷ b ∷ []) (take (i + 2) l ++ t) i k
    ∙ rw (drop_at (take (i + 2) l) t (i + 2) n, take-append-le i (take (i + 2) l) t m, take-take i (i + 2) l q) (append_assoc (take i l) (a ∷ b ∷ []) t))

-- the entries from `from` to `end` moved down to `to`, and those that were left cleared
pub down-cleared : (l : List ℕ) (to from end k : ℕ) → to ≤ from → from ≤ end → end ≤ length l → k ≡ end - (to + (end - from))
    → put_mid (to + (end - from)) k (paste l to (drop from l) (end - from)) (replicate k 0) ≡ closed l to from end
unfolding closed
down-cleared l to from end k h g e q =
    let n = end - from in
    let s : n ≤ length (drop from l) = simp length-drop (omega arith) in
    let m : k ≡ from - to = omega arith in
    let d : to + n + (from - to) ≡ end = omega arith in
    rw (
      take-paste l to (drop from l) n (omega arith) s,
      drop-paste l to (drop from l) n (omega arith) s,
      m,
      drop-drop (from - to) (to + n) l,
      d,
    )
    (append_assoc (take to l) (take n (drop from l)) (replicate (from - to) 0 ++ drop end l))
