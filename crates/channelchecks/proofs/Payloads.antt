-- The payloads as ranges: gathered one by one, and what comparing them says of the channels.
use Prim.Native.Nat.{ℕ, ◌+◌, ◌<◌}
use mathlib.Core.Path.{◌≡◌, refl}
use mathlib.Core.Bool.{Bool, true, false, cond, ◌&&◌, ◌||◌}
use mathlib.Core.List.{List, [], ◌∷◌, ◌++◌}
use native.Mathlib.Omega.{arith}
use native.Mathlib.Numerals.{add-one}
use lib.Dec.{eqb}
use lib.ListN.{length, set, take}
use lib.Seq.{take-set-le, take-suc-set, append_snoc}
use Rattle.rangechecks.specs.Ranges.{disjoint, disjoint_from, all_disjoint, starts, lengths}
use Rattle.rangechecks.specs.declared.disjoint.Range.{Range}
use Rattle.transfer.specs.declared.state.Channel.{Channel}
use Rattle.transfer.specs.Fit.{apart, apart_from, rests_apart}
use Rattle.channelchecks.specs.Payloads.{rest_of, rests_of}

-- ---- the channels that have none left don't count

apart-idle : (k : Channel) (ks : List Channel) → eqb k.left 0 ≡ true → apart_from k ks ≡ true
unfolding apart_from apart
apart-idle k [] e = refl
apart-idle k (j ∷ ks) e = rw (e, apart-idle k ks e)

apart-from-packed : (k : Channel) (ks : List Channel) → eqb k.left 0 ≡ false → apart_from k ks ≡ disjoint_from k.next k.left (starts (rests_of ks)) (lengths (rests_of ks))
unfolding apart_from apart rests_of disjoint_from
apart-from-packed k [] e = refl
apart-from-packed k (j ∷ ks) e = go (eqb j.left 0) refl (apart-from-packed k ks e)
  where
    go : (b : Bool) → eqb j.left 0 ≡ b → apart_from k ks ≡ disjoint_from k.next k.left (starts (rests_of ks)) (lengths (rests_of ks))
        → (((eqb k.left 0 || eqb j.left 0) || disjoint k.next k.left j.next j.left) && apart_from k ks)
        ≡ disjoint_from k.next k.left (starts (cond (eqb j.left 0) (rests_of ks) (rest_of j ∷ rests_of ks))) (lengths (cond (eqb j.left 0) (rests_of ks) (rest_of j ∷ rests_of ks)))
    go true q i = rw (e, q) i
    go false q i = rw (e, q, i)

pub packed-apart : (ks : List Channel) → rests_apart ks ≡ all_disjoint (starts (rests_of ks)) (lengths (rests_of ks))
unfolding rests_apart rests_of all_disjoint
packed-apart [] = refl
packed-apart (k ∷ ks) = go (eqb k.left 0) refl (packed-apart ks)
  where
    go : (b : Bool) → eqb k.left 0 ≡ b → rests_apart ks ≡ all_disjoint (starts (rests_of ks)) (lengths (rests_of ks))
        → (apart_from k ks && rests_apart ks)
        ≡ all_disjoint (starts (cond (eqb k.left 0) (rests_of ks) (rest_of k ∷ rests_of ks))) (lengths (cond (eqb k.left 0) (rests_of ks) (rest_of k ∷ rests_of ks)))
    go true e i = rw (apart-idle k ks e, e) i
    go false e i = rw (apart-from-packed k ks e, e, i)

-- ---- one channel more

-- a channel's rest is stored after those that are packed, and kept where the channel has bytes left
pub packs : (k : Channel) (ks : List Channel) (l : List Range) (n : ℕ) → n < length l
    → take (n + cond (eqb k.left 0) 0 1) (set l n (rest_of k)) ++ rests_of ks ≡ take n l ++ rests_of (k ∷ ks)
unfolding rests_of
packs k ks l n h = go (eqb k.left 0)
  where
    rest : List Range
    rest = rests_of ks

    go : (b : Bool) → take (n + cond b 0 1) (set l n (rest_of k)) ++ rest ≡ take n l ++ cond b rest (rest_of k ∷ rest)
    go true = let z : n + 0 ≡ n = omega arith in rw (z, take-set-le n l n (rest_of k) (omega arith))
    go false = rw (add-one n, take-suc-set l n (rest_of k) h) (append_snoc (take n l) (rest_of k) rest)

-- one that has none left is passed over
pub skips : (k : Channel) (ks : List Channel) → k.left ≡ 0 → rests_of ks ≡ rests_of (k ∷ ks)
unfolding rests_of
skips k ks e = rw e
