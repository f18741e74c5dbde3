-- The place for a range, the number of pairs that end below its start, and what the pair there decides.
use Prim.Native.Nat.{ℕ, zero, suc, ◌+◌, ◌≤◌, ◌<◌}
use mathlib.Core.Path.{◌≡◌, refl}
use mathlib.Core.Bool.{Bool, false, cond, ◌&&◌, ◌||◌, and-true, and-false, or-false}
use native.Mathlib.Omega.{arith}
use native.Mathlib.Decide.{dec_lt, dec_le}
use borrow.Author.Tests.{lt-ltb, le-ltb, le-leb, lt-leb}
use lib.Dec.{leb, ltb}
use Rattle.ledger.specs.Pairs.{Pairs, none, pair, size, ObeyFrom, inside, count_ending_below, count_starting_by}
use Rattle.ledger.specs.LookUp.{ending_below}
use Rattle.ledger.proofs.PairsJoinSlot.{start_at, end_at, end_at-above, end_at-used, end_at-unused, below_on, below-stops, count_starting_by-on, count_starting_by-stops}

-- ---- the pairs before it and from it on

pub below-ends : (s i : ℕ) (ps : Pairs) → i < count_ending_below s ps → end_at i ps < s
unfolding end_at
below-ends s i none h = absurd (unfold count_ending_below in omega arith)
below-ends s i (pair a b ps) h = go i (dec_lt b s) (λ j. below-ends s j ps) h
  where
    go : (i : ℕ) → Dec (b < s) → ((j : ℕ) → j < count_ending_below s ps → end_at j ps < s) → i < count_ending_below s (pair a b ps) → end_at i (pair a b ps) < s
    go i (no q) f k = absurd (omega (arith, below-stops s a b ps (omega arith)))
    go zero (yes q) f k = q
    go (suc i) (yes q) f k = f i (omega (arith, below_on s a b ps q))

pub below-from : (s lo i : ℕ) (ps : Pairs) → ObeyFrom lo ps → count_ending_below s ps ≤ i → i < size ps → s ≤ end_at i ps
unfolding end_at size
below-from s lo i none c h k = absurd (omega arith)
below-from s lo i (pair a b ps) c h k = go i (dec_lt b s) (λ j. below-from s (suc b) j ps c.2) h k
  where
    go : (i : ℕ) → Dec (b < s) → ((j : ℕ) → count_ending_below s ps ≤ j → j < size ps → s ≤ end_at j ps) → count_ending_below s (pair a b ps) ≤ i → i < suc (size ps) → s ≤ end_at i (pair a b ps)
    go zero (yes q) f h k = absurd (omega (arith, below_on s a b ps q))
    go (suc i) (yes q) f h k = f i (omega (arith, below_on s a b ps q)) (omega arith)
    go zero (no q) f h k = omega arith
    go (suc i) (no q) f h k = omega (arith, end_at-above b i ps c.2 (omega arith))

pub below-size : (s : ℕ) (ps : Pairs) → count_ending_below s ps ≤ size ps
unfolding size
below-size s none = unfold count_ending_below in omega arith
below-size s (pair a b ps) = go (dec_lt b s) (below-size s ps)
  where
    go : Dec (b < s) → count_ending_below s ps ≤ size ps → count_ending_below s (pair a b ps) ≤ suc (size ps)
    go (yes h) i = omega (arith, below_on s a b ps h)
    go (no h) i = omega (arith, below-stops s a b ps (omega arith))

-- pairs that begin above s: none ends below it
none_below : (s lo : ℕ) (ps : Pairs) → ObeyFrom lo ps → s ≤ lo → ending_below s ps ≡ 0
unfolding ending_below
none_below s lo none c h = refl
none_below s lo (pair a b ps) c h = rw (le-ltb b s (omega (arith, c.0, c.1)), none_below s (suc b) ps c.2 (omega (arith, c.0, c.1)))

-- counted from the first on, they are all that end below s
pub below-are-all : (s lo : ℕ) (ps : Pairs) → ObeyFrom lo ps → count_ending_below s ps ≡ ending_below s ps
unfolding ending_below
below-are-all s lo none c = unfold count_ending_below in refl
below-are-all s lo (pair a b ps) c = go (dec_lt b s) (below-are-all s (suc b) ps c.2)
  where
    go : Dec (b < s) → count_ending_below s ps ≡ ending_below s ps → count_ending_below s (pair a b ps) ≡ cond (ltb b s) 1 0 + ending_below s ps
    go (yes q) i = rw (lt-ltb b s q) (omega (arith, below_on s a b ps q))
    go (no q) i = rw (le-ltb b s (omega arith)) (omega (arith, below-stops s a b ps (omega arith), none_below s (suc b) ps c.2 (omega arith)))

-- ---- a look at one pair

pub below-test : (s lo i : ℕ) (ps : Pairs) → ObeyFrom lo ps → (ltb 0 (end_at i ps) && ltb (end_at i ps) s) ≡ ltb i (count_ending_below s ps)
below-test s lo i ps c = go (dec_lt i (size ps)) (dec_lt i (count_ending_below s ps))
  where
    go : Dec (i < size ps) → Dec (i < count_ending_below s ps) → (ltb 0 (end_at i ps) && ltb (end_at i ps) s) ≡ ltb i (count_ending_below s ps)
    go d (yes q) =
        let h : i < size ps = omega (arith, below-size s ps) in
        rw (lt-ltb i (count_ending_below s ps) q, lt-ltb (end_at i ps) s (below-ends s i ps q), lt-ltb 0 (end_at i ps) (end_at-used i lo ps c h))
    go (yes h) (no q) = rw (le-ltb i (count_ending_below s ps) (omega arith), le-ltb (end_at i ps) s (below-from s lo i ps c (omega arith) h)) (and-false (ltb 0 (end_at i ps)))
    go (no h) (no q) = rw (le-ltb i (count_ending_below s ps) (omega arith), end_at-unused i ps (omega arith))

-- ---- what the pair at a place decides

-- the pair with the number i is used and starts at p or before
abbrev pub starts_by : ℕ → ℕ → Pairs → Bool
starts_by p i ps = ltb 0 (end_at i ps) && leb (start_at i ps) p

-- pairs from lo on: none starts by a place below it
pub none-starts : (p lo : ℕ) (ps : Pairs) → ObeyFrom lo ps → p < lo → count_starting_by p ps ≡ 0
none-starts p lo none c h = unfold count_starting_by in refl
none-starts p lo (pair a b ps) c h = count_starting_by-stops p a b ps (omega (arith, c.0))

none_inside : (s e lo : ℕ) (ps : Pairs) → ObeyFrom lo ps → s < lo → inside s e ps ≡ false
unfolding inside
none_inside s e lo none c h = refl
none_inside s e lo (pair a b ps) c h = rw (lt-leb a s (omega (arith, c.0)), none_inside s e (suc b) ps c.2 (omega (arith, c.0, c.1)))

-- the pairs that start by e are those that end below it and the one at its place, where that one starts by it
pub starting-at : (e lo : ℕ) (ps : Pairs) → ObeyFrom lo ps → count_starting_by e ps ≡ count_ending_below e ps + cond (starts_by e (count_ending_below e ps) ps) 1 0
unfolding start_at end_at
starting-at e lo none c = unfold count_starting_by count_ending_below in refl
starting-at e lo (pair a b ps) c = go (dec_lt b e) (dec_le a e) (starting-at e (suc b) ps c.2)
  where
    go : Dec (b < e) → Dec (a ≤ e) → count_starting_by e ps ≡ count_ending_below e ps + cond (starts_by e (count_ending_below e ps) ps) 1 0
        → count_starting_by e (pair a b ps) ≡ count_ending_below e (pair a b ps) + cond (starts_by e (count_ending_below e (pair a b ps)) (pair a b ps)) 1 0
    go (yes q) d i = rw (below_on e a b ps q) (omega (arith, count_starting_by-on e a b ps (omega (arith, c.1)), i))
    go (no q) (yes d) i =
        rw (below-stops e a b ps (omega arith), lt-ltb 0 b (omega (arith, c.1)), le-leb a e d)
        (omega (arith, count_starting_by-on e a b ps d, none-starts e (suc b) ps c.2 (omega arith)))
    go (no q) (no d) i =
        rw (below-stops e a b ps (omega arith), lt-ltb 0 b (omega (arith, c.1)), lt-leb a e (omega arith)) (count_starting_by-stops e a b ps (omega arith))

-- a range lies inside a pair where the pair at the place for its end starts by its start
pub inside-at : (s e lo : ℕ) (ps : Pairs) → s < e → ObeyFrom lo ps → inside s e ps ≡ starts_by s (count_ending_below e ps) ps
unfolding inside start_at end_at
inside-at s e lo none h c = unfold count_ending_below in refl
inside-at s e lo (pair a b ps) h c = go (dec_lt b e) (inside-at s e (suc b) ps h c.2)
  where
    go : Dec (b < e) → inside s e ps ≡ starts_by s (count_ending_below e ps) ps → ((leb a s && leb e b) || inside s e ps) ≡ starts_by s (count_ending_below e (pair a b ps)) (pair a b ps)
    go (yes q) i = rw (below_on e a b ps q, lt-leb e b q, and-false (leb a s)) i
    go (no q) i =
        rw (below-stops e a b ps (omega arith), le-leb e b (omega arith), lt-ltb 0 b (omega (arith, c.1)), none_inside s e (suc b) ps c.2 (omega arith), and-true (leb a s))
        (or-false (leb a s))
