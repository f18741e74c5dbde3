-- The numbers of a sender against the most that each channel can have, one after the other.
use Prim.Native.Nat.{ℕ, zero, suc, ◌+◌, ◌/◌, ◌%◌, ◌≤◌, ◌<◌}
use mathlib.Core.Path.{◌≡◌, refl, sym}
use mathlib.Core.Bool.{Bool, true, false, cond, not, and-eq-true_iff}
use mathlib.Core.List.{List, [], ◌∷◌}
use native.Mathlib.Omega.{arith}
use native.Mathlib.Decide.{dec_lt}
use native.Mathlib.Nat.{zero-add, add-zero, add-suc, suc-add}
use lib.Dec.{leb, ltb}
use lib.ListN.{length, get_or, get_or-eq_default}
use borrow.Author.Tests.{lt-ltb, le-leb, leb-true, not-true}
use Rattle.std.proofs.lemmas.List.FromFn.{length-enumerate_from, get_or-enumerate_from}
use Rattle.std.specs.Bool.{MatchBool}
use Rattle.std.specs.List.{AllWithin, HoldsAt, enumerate_from}
use Rattle.sender.specs.declared.state.Sender.{Sender}
use Rattle.sender.specs.Blocks.{out_of_range, block_count, blocks_on}
use Rattle.sender.specs.Sender.{given_on, most_on, all_at_most, calls_can_give}

-- the most that a channel can have, with the number of blocks given
pub most-is : (len count size c b r : ℕ) → b ≡ block_count len size → r ≡ cond (ltb c count) (b / count + cond (ltb c (b % count)) 1 0 + 1) 0 → r ≡ most_on len count size c
unfolding most_on blocks_on
most-is len count size c b r e h = rw e at h

pub most-below : (len count size c : ℕ) → c < count → most_on len count size c ≡ blocks_on (block_count len size) count c + 1
unfolding most_on
most-below len count size c h = simp (lt-ltb c count h)

-- ---- all of them at once

pub each-at-most : (most : ℕ → ℕ) (n : ℕ) (l : List ℕ) → all_at_most most n l ≡ true → (c : ℕ) → get_or l c 0 ≤ most (n + c)
unfolding all_at_most
each-at-most most n [] e c = omega arith
each-at-most most n (x ∷ l) e zero = rw (add-zero n) (leb-true x (most n) ((and-eq-true_iff (leb x (most n)) (all_at_most most (suc n) l)).0 e).0)
each-at-most most n (x ∷ l) e (suc c) = rw (add-suc n c) (rw (suc-add n c) at (each-at-most most (suc n) l ((and-eq-true_iff (leb x (most n)) (all_at_most most (suc n) l)).0 e).1 c))

pub all-at-most : (most : ℕ → ℕ) (n : ℕ) (l : List ℕ) → ((c : ℕ) → get_or l c 0 ≤ most (n + c)) → all_at_most most n l ≡ true
unfolding all_at_most
all-at-most most n [] h = refl
all-at-most most n (x ∷ l) h = rw (le-leb x (most n) (rw (add-zero n) at (h 0))) (all-at-most most (suc n) l (λ c. rw (suc-add n c) (rw (add-suc n c) at (h (suc c)))))

-- what the test of each number says of all
pub from-all : (most : ℕ → ℕ) (l : List ℕ) (r : Bool)
    → MatchBool r (AllWithin (λ (p : ℕ × ℕ). p.1 ≤ most p.0) (enumerate_from 0 l) 0 (length (enumerate_from 0 l))) ((k : ℕ) × (k < length (enumerate_from 0 l)) × HoldsAt (λ (p : ℕ × ℕ). most p.0 < p.1) (enumerate_from 0 l) k)
    → r ≡ all_at_most most 0 l
from-all most l true h = sym (all-at-most most 0 l (λ c. by c (dec_lt c (length l))))
  where
    by : (c : ℕ) → Dec (c < length l) → get_or l c 0 ≤ most (0 + c)
    by c (yes p) = rw (get_or-enumerate_from 0 l c (0, 0) p) at (h c (0, 0) (omega arith) (omega (arith, length-enumerate_from 0 l)))
    by c (no p) = omega (arith, get_or-eq_default l 0 {n = c} (omega arith))
from-all most l false (k, b, h) = by (all_at_most most 0 l) refl
  where
    by : (a : Bool) → all_at_most most 0 l ≡ a → false ≡ a
    by true e = absurd (omega (arith, each-at-most most 0 l e k, rw (get_or-enumerate_from 0 l k (0, 0) (omega (arith, length-enumerate_from 0 l))) at (h (0, 0))))
    by false e = refl

-- the same by the share of each channel
pub by-share : (len count size each more n : ℕ) (l : List ℕ) → each ≡ block_count len size / count → more ≡ block_count len size % count → n ≡ count
    → all_at_most (λ c. cond (ltb c n) (each + cond (ltb c more) 1 0 + 1) 0) 0 l ≡ all_at_most (most_on len count size) 0 l
unfolding most_on blocks_on
by-share len count size each more n l e₁ e₂ e₃ = rw (e₁, e₂, e₃)

-- what the test of a sender says
pub tested : (s : Sender) → calls_can_give s ≡ true → (out_of_range s.count s.size ≡ false) × ((c : ℕ) → given_on s c ≤ most_on s.len s.count s.size c)
unfolding calls_can_give
tested s e =
    let a = (and-eq-true_iff (not (out_of_range s.count s.size)) (all_at_most (most_on s.len s.count s.size) 0 s.given)).0 e in
    (not-true _ a.0, λ c. rw (zero-add c) at (each-at-most (most_on s.len s.count s.size) 0 s.given a.1 c))
