-- The pairs from the first on that does not end below a place: they decide what lies inside, of all that ends there or later.
use Prim.Native.Nat.{ℕ, suc, ◌≤◌, ◌<◌}
use mathlib.Core.Path.{◌≡◌, refl, sym, ◌∙◌}
use mathlib.Core.Bool.{and-false}
use native.Mathlib.Omega.{arith}
use native.Mathlib.Decide.{dec_lt}
use borrow.Author.Tests.{lt-ltb, le-ltb, lt-leb}
use lib.Dec.{leb}
use Rattle.ledger.specs.Pairs.{Pairs, none, pair, ObeyFrom, inside, all_inside, count_ending_below}
use Rattle.ledger.proofs.PairsPlaces.{ruled-down}
use Rattle.ledger.proofs.PairsJoinSlot.{below-stops}
use Rattle.ledger.proofs.PairsAtPlace.{starts_by, inside-at}
use Rattle.rangechecks.specs.Nested.{reaching}

-- ---- the first pair, passed or not

pub passes : (e a b : ℕ) (ps : Pairs) → b < e → reaching e (pair a b ps) ≡ reaching e ps
unfolding reaching
passes e a b ps h = rw (lt-ltb b e h)

pub stays : (e a b : ℕ) (ps : Pairs) → e ≤ b → reaching e (pair a b ps) ≡ pair a b ps
unfolding reaching
stays e a b ps h = rw (le-ltb b e h)

pub none_reach : (e : ℕ) → reaching e none ≡ none
unfolding reaching
none_reach e = refl

-- ---- what they keep

pub reaching-ruled : (e lo : ℕ) (ps : Pairs) → ObeyFrom lo ps → ObeyFrom lo (reaching e ps)
reaching-ruled e lo none c = rw (none_reach e) tt
reaching-ruled e lo (pair a b ps) c = go (dec_lt b e) (reaching-ruled e lo ps (ruled-down lo (suc b) ps (omega (arith, c.0, c.1)) c.2))
  where
    go : Dec (b < e) → ObeyFrom lo (reaching e ps) → ObeyFrom lo (reaching e (pair a b ps))
    go (yes h) i = rw (passes e a b ps h) i
    go (no h) i = rw (stays e a b ps (omega arith)) c

reaching-inside : (s t e : ℕ) (ps : Pairs) → e ≤ t → inside s t (reaching e ps) ≡ inside s t ps
unfolding inside
reaching-inside s t e none h = rw (none_reach e)
reaching-inside s t e (pair a b ps) h = go (dec_lt b e) (reaching-inside s t e ps h)
  where
    go : Dec (b < e) → inside s t (reaching e ps) ≡ inside s t ps → inside s t (reaching e (pair a b ps)) ≡ inside s t (pair a b ps)
    go (yes k) i = rw (passes e a b ps k, lt-leb t b (omega arith), and-false (leb a s)) i
    go (no k) i = rw (stays e a b ps (omega arith))

pub reaching-all : (e lo : ℕ) (ds ps : Pairs) → ObeyFrom lo ds → e ≤ lo → all_inside ds (reaching e ps) ≡ all_inside ds ps
unfolding all_inside
reaching-all e lo none ps c h = refl
reaching-all e lo (pair a b ds) ps c h =
    rw (reaching-inside a b e ps (omega (arith, c.0, c.1)), reaching-all e (suc b) ds ps c.2 (omega (arith, c.0, c.1)))

-- the first of them decides for a range that ends at e
pub reaching-first : (s e lo : ℕ) (ps : Pairs) → s < e → ObeyFrom lo ps → inside s e ps ≡ starts_by s 0 (reaching e ps)
reaching-first s e lo ps h c =
    sym (reaching-inside s e e ps (omega arith)) ∙ inside-at s e lo (reaching e ps) h (reaching-ruled e lo ps c) ∙ rw (none_below ps)
  where
    none_below : (ps : Pairs) → count_ending_below e (reaching e ps) ≡ 0
    none_below none = rw (none_reach e) (unfold count_ending_below in refl)
    none_below (pair a b ps) = go (dec_lt b e) (none_below ps)
      where
        go : Dec (b < e) → count_ending_below e (reaching e ps) ≡ 0 → count_ending_below e (reaching e (pair a b ps)) ≡ 0
        go (yes k) i = rw (passes e a b ps k) i
        go (no k) i = rw (stays e a b ps (omega arith)) (below-stops e a b ps (omega arith))
