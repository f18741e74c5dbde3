-- A walk over two ledgers at once: the pairs that are left of both decide whether each inner one lies inside an outer one.
use Prim.Native.Nat.{ℕ, suc, ◌≤◌, ◌<◌}
use mathlib.Core.Path.{◌≡◌, sym, ◌∙◌}
use mathlib.Core.Bool.{Bool, true, false, ◌&&◌}
use mathlib.Core.List.{List, ◌∷◌}
use native.Mathlib.Omega.{arith}
use borrow.Author.Tests.{lt-ltb, ne_eqb, le-leb, lt-leb}
use lib.Dec.{leb}
use lib.ListN.{get_or}
use Rattle.ledger.specs.Pairs.{Pairs, none, pair, ObeyFrom, all_inside}
use Rattle.ledger.specs.Ledger.{pairs_of}
use Rattle.ledger.proofs.LedgerPairAt.{first_unused}
use Rattle.ledger.proofs.PairsJoinSlot.{start_at, end_at}
use Rattle.ledger.proofs.PairsPlaces.{ruled-down}
use Rattle.ledger.proofs.PairsAtPlace.{starts_by}
use Rattle.rangechecks.specs.Nested.{reaching}
use Rattle.rangechecks.proofs.Reaching.{passes, stays, none_reach, reaching-ruled, reaching-all, reaching-first}

-- ---- in pairs

-- ds are left of the inner ones, and ps of the outer ones
abbrev pub Left : Pairs → Pairs → Bool → Type 0
Left ds ps answer = (ObeyFrom 0 ds) × (ObeyFrom 0 ps) × (all_inside ds ps ≡ answer)

nothing_left : (ps : Pairs) (answer : Bool) → Left none ps answer → true ≡ answer
unfolding all_inside
nothing_left ps answer w = w.2

module _ (a b : ℕ) (ds ps : Pairs) (answer : Bool) (w : Left (pair a b ds) ps answer) where
  first-decides : (starts_by a 0 (reaching b ps) && all_inside ds (reaching b ps)) ≡ answer
  unfolding all_inside
  first-decides = rw (← reaching-first a b 0 ps w.0.1 w.1, reaching-all b (suc b) ds ps w.0.2 (omega arith)) w.2

  first-left : starts_by a 0 (reaching b ps) ≡ true → Left ds (reaching b ps) answer
  first-left e = (ruled-down 0 (suc b) ds (omega arith) w.0.2, reaching-ruled b 0 ps w.1, rw e at first-decides)

-- ---- in entries

pub first_used : (l r : List ℕ) (a b : ℕ) → 0 < b → l ≡ a ∷ b ∷ r → pairs_of l ≡ pair a b (pairs_of r)
unfolding pairs_of
first_used l r a b h e = rw (e, ne_eqb b 0 (λ z. omega arith))

-- the walk stands at d of the inner ledger and l of the outer one
module _ (d l : List ℕ) (answer : Bool) (w : Left (pairs_of d) (pairs_of l) answer) where
  -- no pair of the inner ledger is left
  pub walk-over : get_or d 1 0 ≡ 0 → true ≡ answer
  walk-over e = nothing_left (pairs_of l) answer (rw (first_unused d e) at w)

  -- one is, and m is the outer ledger from the first pair on that does not end below its end
  module _ (a b : ℕ) (e m : List ℕ) (h : 0 < b) (is : d ≡ a ∷ b ∷ e) (to : pairs_of m ≡ reaching b (pairs_of l)) where
    now-used : Left (pair a b (pairs_of e)) (pairs_of l) answer
    now-used = rw (first_used d e a b h is) at w

    -- none of the outer ones is left
    pub walk-lacks : get_or m 1 0 ≡ 0 → false ≡ answer
    unfolding start_at end_at
    walk-lacks z =
        let n : reaching b (pairs_of l) ≡ none = sym to ∙ first_unused m z in
        rw n at (first-decides a b (pairs_of e) (pairs_of l) answer now-used)

    -- one is, from x up to y
    module _ (x y : ℕ) (k : List ℕ) (g : 0 < y) (at : m ≡ x ∷ y ∷ k) where
      next_is : starts_by a 0 (reaching b (pairs_of l)) ≡ leb x a
      unfolding start_at end_at
      next_is = rw (← to, first_used m k x y g at, lt-ltb 0 y g)

      pub walk-stops : a < x → false ≡ answer
      walk-stops f = rw (next_is, lt-leb x a f) at (first-decides a b (pairs_of e) (pairs_of l) answer now-used)

      pub walk-goes-on : x ≤ a → Left (pairs_of e) (pairs_of m) answer
      walk-goes-on f = rw to (first-left a b (pairs_of e) (pairs_of l) answer now-used (next_is ∙ le-leb x a f))

-- ---- one ledger, gone over pair by pair

pub ruleset reaching_steps = (passes, stays, none_reach, first_used, first_unused)
