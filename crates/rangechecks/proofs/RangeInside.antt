-- A range that lies inside a pair of a ledger, or in none.
use Prim.Native.Nat.{ℕ, ◌+◌, ◌*◌, ◌<◌}
use mathlib.Core.Path.{◌≡◌, refl}
use mathlib.Core.Bool.{true, false, ◌&&◌, and-false, and-eq-true_iff, false≢true}
use mathlib.Core.List.{List, [], ◌∷◌}
use native.Mathlib.Omega.{arith}
use borrow.Author.Tests.{lt-leb, leb-true, ne_eqb}
use lib.Dec.{leb, ltb}
use lib.ListN.{length, get_or}
use Rattle.ledger.specs.Pairs.{Pairs, none, pair, inside, ends_at_most, count_ending_below}
use Rattle.ledger.specs.Ledger.{obeys, pairs_of, capacity}
use Rattle.ledger.proofs.LedgerLayout.{rule-ruled}
use Rattle.ledger.proofs.LedgerOdd.{obeys-even}
use Rattle.ledger.proofs.LedgerRule.{start_is, end_is}
use Rattle.ledger.proofs.PairsAtPlace.{inside-at}

-- the pair at the place for its end decides
pub by_place : (s e at : ℕ) (l : List ℕ) → s < e → obeys l ≡ true → at ≡ count_ending_below e (pairs_of l)
    → (ltb 0 (get_or l (2 * at + 1) 0) && leb (get_or l (2 * at) 0) s) ≡ inside s e (pairs_of l)
unfolding obeys
by_place s e at l h o a =
    let n : length l ≡ 2 * capacity l = omega (arith, obeys-even l o) in
    rw (start_is (capacity l) l n o at, end_is (capacity l) l n o at, a, inside-at s e 0 (pairs_of l) h (rule-ruled 0 l o))

-- the first pair holds it
pub by_first : (s e : ℕ) (l : List ℕ) → s < e → (leb 2 (length l) && (leb (get_or l 0 0) s && leb e (get_or l 1 0))) ≡ true → inside s e (pairs_of l) ≡ true
unfolding pairs_of inside
by_first s e [] h q = absurd (false≢true q)
by_first s e (a ∷ []) h q = absurd (false≢true q)
by_first s e (a ∷ b ∷ rest) h q =
    let p = ((and-eq-true_iff (leb 2 (length (a ∷ b ∷ rest))) (leb a s && leb e b)).0 q).1 in
    let g = leb-true e b ((and-eq-true_iff (leb a s) (leb e b)).0 p).1 in
    rw (ne_eqb b 0 (λ z. omega (arith, z, g, h)), p)

-- a range that ends above every end lies in no pair
pub past_all : (s e f : ℕ) (ps : Pairs) → ends_at_most f ps ≡ true → f < e → inside s e ps ≡ false
unfolding inside ends_at_most
past_all s e f none h g = refl
past_all s e f (pair a b ps) h g =
    let q = (and-eq-true_iff (leb b f) (ends_at_most f ps)).0 h in
    rw (lt-leb e b (omega (arith, leb-true b f q.0)), and-false (leb a s), past_all s e f ps q.1 g)
