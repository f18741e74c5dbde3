-- The test that no two rests share a byte, and places: each gives the other.
use Prim.Native.Nat.{ℕ, zero, suc, ◌+◌, ◌≤◌, ◌<◌, max}
use mathlib.Core.Path.{◌≡◌, refl}
use mathlib.Core.Logic.{inl, inr}
use mathlib.Core.Bool.{Bool, true, false, ◌||◌, false≢true}
use mathlib.Core.List.{List, [], ◌∷◌}
use native.Mathlib.Omega.{arith}
use native.Mathlib.Decide.{dec_le, ℕ_discrete}
use borrow.Author.Tests.{le-leb, lt-leb, eq-eqb, ne_eqb, leb-true, eqb-true}
use lib.Dec.{leb, eqb}
use lib.ListN.{length, get_or}
use Rattle.ledger.proofs.PairsPlaces.{in_range-in, in_range-le}
use Rattle.ledger.proofs.PairsOverlap.{apart as ranges_Apart}
use Rattle.transfer.specs.declared.state.Channel.{Channel}
use Rattle.transfer.specs.Channel.{blank}
use Rattle.transfer.specs.Transfer.{sum}
use Rattle.transfer.specs.Fit.{apart, apart_from, rests_apart}
use Rattle.transfer.proofs.ChannelBytes.{in_range-nothing}
use Rattle.transfer.proofs.FitChannelKinds.{waits}
use Rattle.transfer.proofs.FitChannels.{both}

pub apart-says : (j k : Channel) → apart j k ≡ true → (p : ℕ) → waits p j + waits p k ≤ 1
unfolding apart
apart-says j k h p = go (eqb j.left 0) (eqb k.left 0) (leb (j.next + j.left) k.next) (leb (k.next + k.left) j.next) refl refl refl refl h
  where
    go : (a b l m : Bool) → eqb j.left 0 ≡ a → eqb k.left 0 ≡ b → leb (j.next + j.left) k.next ≡ l → leb (k.next + k.left) j.next ≡ m
        → ((a || b) || (l || m)) ≡ true → waits p j + waits p k ≤ 1
    go true b l m q r s t z = omega (arith, in_range-nothing j.next (j.next + j.left) p (omega (arith, eqb-true j.left 0 q)), in_range-le k.next (k.next + k.left) p)
    go false true l m q r s t z = omega (arith, in_range-nothing k.next (k.next + k.left) p (omega (arith, eqb-true k.left 0 r)), in_range-le j.next (j.next + j.left) p)
    go false false true m q r s t z = ranges_Apart j.next (j.next + j.left) k.next (k.next + k.left) p (inl (leb-true (j.next + j.left) k.next s))
    go false false false true q r s t z = ranges_Apart j.next (j.next + j.left) k.next (k.next + k.left) p (inr (leb-true (k.next + k.left) j.next t))
    go false false false false q r s t z = absurd (false≢true z)

from-says : (j : Channel) (ks : List Channel) (d : ℕ) → apart_from j ks ≡ true → d < length ks → apart j (get_or ks d blank) ≡ true
unfolding apart_from
from-says j [] d h g = absurd (omega arith)
from-says j (k ∷ ks) zero h g = (both (apart j k) (apart_from j ks) h).0
from-says j (k ∷ ks) (suc d) h g = from-says j ks d (both (apart j k) (apart_from j ks) h).1 (omega arith)

pub rests-say : (ks : List Channel) (c d : ℕ) → rests_apart ks ≡ true → c < d → d < length ks → apart (get_or ks c blank) (get_or ks d blank) ≡ true
unfolding rests_apart
rests-say [] c d h f g = absurd (omega arith)
rests-say (k ∷ ks) c zero h f g = absurd (omega arith)
rests-say (k ∷ ks) zero (suc d) h f g = from-says k ks d (both (apart_from k ks) (rests_apart ks) h).0 (omega arith)
rests-say (k ∷ ks) (suc c) (suc d) h f g = rests-say ks c d (both (apart_from k ks) (rests_apart ks) h).1 (omega arith) (omega arith)

apart-is : (j k : Channel) → ((p : ℕ) → waits p j + waits p k ≤ 1) → apart j k ≡ true
unfolding apart
apart-is j k d = go (ℕ_discrete j.left 0) (ℕ_discrete k.left 0) (dec_le (j.next + j.left) k.next) (dec_le (k.next + k.left) j.next)
  where
    go : Dec (j.left ≡ 0) → Dec (k.left ≡ 0) → Dec (j.next + j.left ≤ k.next) → Dec (k.next + k.left ≤ j.next)
        → ((eqb j.left 0 || eqb k.left 0) || (leb (j.next + j.left) k.next || leb (k.next + k.left) j.next)) ≡ true
    go (yes x) y a b = rw (eq-eqb j.left 0 x)
    go (no x) (yes y) a b = rw (ne_eqb j.left 0 x, eq-eqb k.left 0 y)
    go (no x) (no y) (yes a) b = rw (ne_eqb j.left 0 x, ne_eqb k.left 0 y, le-leb (j.next + j.left) k.next a)
    go (no x) (no y) (no a) (yes b) =
        rw (ne_eqb j.left 0 x, ne_eqb k.left 0 y, lt-leb (j.next + j.left) k.next (omega arith), le-leb (k.next + k.left) j.next b)
    go (no x) (no y) (no a) (no b) =
        let m = max j.next k.next in
        absurd (omega (arith, d m, in_range-in j.next (j.next + j.left) m (omega arith) (omega arith), in_range-in k.next (k.next + k.left) m (omega arith) (omega arith)))

from-apart : (j : Channel) (ks : List Channel) → ((p : ℕ) → waits p j + sum (waits p) ks ≤ 1) → apart_from j ks ≡ true
unfolding apart_from sum
from-apart j [] h = refl
from-apart j (k ∷ ks) h = rw (apart-is j k (λ p. omega (arith, h p)), from-apart j ks (λ p. omega (arith, h p)))

pub rests-apart : (ks : List Channel) → ((p : ℕ) → sum (waits p) ks ≤ 1) → rests_apart ks ≡ true
unfolding rests_apart sum
rests-apart [] h = refl
rests-apart (k ∷ ks) h = rw (from-apart k ks h, rests-apart ks (λ p. omega (arith, h p)))
