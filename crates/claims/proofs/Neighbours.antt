-- A range among pairs that obey the rule: the pair at its place and the one after it decide what it shares and what it touches.
use Prim.Native.Nat.{ℕ, suc, ◌+◌, ◌≤◌, ◌<◌}
use mathlib.Core.Path.{◌≡◌, refl}
use mathlib.Core.Bool.{Bool, true, false, cond, ◌&&◌, ◌||◌, and-false, true≢false}
use native.Mathlib.Omega.{arith}
use native.Mathlib.Decide.{dec_lt, dec_le}
use borrow.Author.Tests.{lt-ltb, le-ltb, le-leb, lt-leb}
use lib.Dec.{ltb}
use Rattle.ledger.specs.Pairs.{Pairs, none, pair, ObeyFrom, overlaps, count_ending_below, count_starting_by}
use Rattle.claims.specs.Neighbours.{Pair, shared_by, starts_by}
use Rattle.ledger.proofs.PairsJoinSlot.{start_at, end_at, count_starting_by-on, count_starting_by-stops, below_on, below-stops}
use Rattle.ledger.proofs.PairsAtPlace.{none-starts}

-- the pair with the number i of the used ones
abbrev pub numbered : ℕ → Pairs → Pair
numbered i ps = record { start = start_at i ps; end = end_at i ps }

-- ---- 17

-- pairs that start at or above the end share nothing
shares-beyond : (s e lo : ℕ) (ps : Pairs) → ObeyFrom lo ps → e ≤ lo → overlaps s e ps ≡ false
unfolding overlaps
shares-beyond s e lo none c h = refl
shares-beyond s e lo (pair a b ps) c h =
    rw (le-ltb a e (omega (arith, c.0)), and-false (ltb s b), shares-beyond s e (suc b) ps c.2 (omega (arith, c.0, c.1)))

-- of pairs above the start the first decides
first-shares : (s e lo : ℕ) (ps : Pairs) → ObeyFrom lo ps → s < lo → overlaps s e ps ≡ shared_by s e (numbered 0 ps)
unfolding overlaps shared_by start_at end_at
first-shares s e lo none c h = rw (le-ltb s 0 (omega arith))
first-shares s e lo (pair a b ps) c h = go (dec_lt a e)
  where
    go : Dec (a < e) → ((ltb s b && ltb a e) || overlaps s e ps) ≡ (ltb s b && ltb a e)
    go (yes q) = rw (lt-ltb s b (omega (arith, c.0, c.1)), lt-ltb a e q)
    go (no q) = rw (le-ltb a e (omega arith), and-false (ltb s b), shares-beyond s e (suc b) ps c.2 (omega (arith, c.1)))

pub two-share : (s e lo : ℕ) (ps : Pairs) → ObeyFrom lo ps
    → overlaps s e ps ≡ (shared_by s e (numbered (count_ending_below s ps) ps) || shared_by s e (numbered (suc (count_ending_below s ps)) ps))
unfolding overlaps shared_by start_at end_at
two-share s e lo none c = rw (le-ltb s 0 (omega arith))
two-share s e lo (pair a b ps) c = go (dec_lt b s) (two-share s e (suc b) ps c.2)
  where
    go : Dec (b < s) → overlaps s e ps ≡ (shared_by s e (numbered (count_ending_below s ps) ps) || shared_by s e (numbered (suc (count_ending_below s ps)) ps))
        → ((ltb s b && ltb a e) || overlaps s e ps)
        ≡ (shared_by s e (numbered (count_ending_below s (pair a b ps)) (pair a b ps)) || shared_by s e (numbered (suc (count_ending_below s (pair a b ps))) (pair a b ps)))
    go (yes q) i = rw (below_on s a b ps q, le-ltb s b (omega arith)) i
    go (no q) i = rw (below-stops s a b ps (omega arith), first-shares s e (suc b) ps c.2 (omega arith))

-- ---- which pairs a range that shares none touches

-- of pairs above the start the first alone may
first-touches : (s e lo : ℕ) (ps : Pairs) → ObeyFrom lo ps → s < lo → overlaps s e ps ≡ false → count_starting_by e ps ≡ cond (starts_by e (numbered 0 ps)) 1 0
unfolding overlaps starts_by start_at end_at
first-touches s e lo none c h n = unfold count_starting_by in refl
first-touches s e lo (pair a b ps) c h n = go (dec_le a e) (dec_lt a e)
  where
    go : Dec (a ≤ e) → Dec (a < e) → count_starting_by e (pair a b ps) ≡ cond (starts_by e (numbered 0 (pair a b ps))) 1 0
    go d (yes q) = absurd (true≢false (rw (lt-ltb s b (omega (arith, c.0, c.1)), lt-ltb a e q) at n))
    go (yes d) (no q) =
        rw (lt-ltb 0 b (omega (arith, c.1)), le-leb a e d) (omega (arith, count_starting_by-on e a b ps d, none-starts e (suc b) ps c.2 (omega (arith, c.1))))
    go (no d) (no q) = rw (lt-ltb 0 b (omega (arith, c.1)), lt-leb a e (omega arith)) (count_starting_by-stops e a b ps (omega arith))

pub two-touch : (s e lo : ℕ) (ps : Pairs) → s < e → ObeyFrom lo ps → overlaps s e ps ≡ false
    → count_starting_by e ps ≡ count_ending_below s ps + cond (starts_by e (numbered (count_ending_below s ps) ps)) (cond (starts_by e (numbered (suc (count_ending_below s ps)) ps)) 2 1) 0
unfolding overlaps starts_by start_at end_at
two-touch s e lo none h c n = unfold count_starting_by count_ending_below in refl
two-touch s e lo (pair a b ps) h c n = go (dec_lt b s) (dec_le a e) (two-touch s e (suc b) ps h c.2)
  where
    -- none of the pairs after the first shares a place
    after : (t : Bool) → (t || overlaps s e ps) ≡ false → overlaps s e ps ≡ false
    after true k = absurd (true≢false k)
    after false k = k

    one_more : (t : Bool) → count_starting_by e ps ≡ cond t 1 0 → suc (count_starting_by e ps) ≡ 0 + cond t 2 1
    one_more true k = omega arith
    one_more false k = omega arith

    go : Dec (b < s) → Dec (a ≤ e)
        → (overlaps s e ps ≡ false → count_starting_by e ps ≡ count_ending_below s ps + cond (starts_by e (numbered (count_ending_below s ps) ps)) (cond (starts_by e (numbered (suc (count_ending_below s ps)) ps)) 2 1) 0)
        → count_starting_by e (pair a b ps) ≡ count_ending_below s (pair a b ps) + cond (starts_by e (numbered (count_ending_below s (pair a b ps)) (pair a b ps))) (cond (starts_by e (numbered (suc (count_ending_below s (pair a b ps))) (pair a b ps))) 2 1) 0
    go (yes q) d i = rw (below_on s a b ps q) (omega (arith, count_starting_by-on e a b ps (omega (arith, c.1)), i (after (ltb s b && ltb a e) n)))
    go (no q) (yes d) i =
        rw (below-stops s a b ps (omega arith), count_starting_by-on e a b ps d, lt-ltb 0 b (omega (arith, c.1)), le-leb a e d)
        (one_more (starts_by e (numbered 0 ps)) (first-touches s e (suc b) ps c.2 (omega arith) (after (ltb s b && ltb a e) n)))
    go (no q) (no d) i =
        rw (below-stops s a b ps (omega arith), lt-ltb 0 b (omega (arith, c.1)), lt-leb a e (omega arith)) (count_starting_by-stops e a b ps (omega arith))
