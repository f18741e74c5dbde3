-- The state that a channel's bytes make, and when they end it.
use Prim.Native.Nat.{ℕ}
use mathlib.Core.Path.{◌≡◌, refl, ap}
use mathlib.Core.Bool.{false, ◌||◌, or-false}
use mathlib.Core.List.{List, [], ◌∷◌, ◌++◌}
use native.Mathlib.Omega.{arith}
use borrow.Author.Tests.{le-ltb}
use lib.ListN.{length}
use Rattle.transfer.specs.Channel.{header}
use Rattle.transfer.specs.Header.{ends_channel}
use Rattle.transfer.specs.Block.{Block, size_of, is_complete_end, has_ended}
use Rattle.transfer.specs.Tally.{all_but_last}
use Rattle.transfer.specs.StateFrom.{state_after_block, state_after_blocks}
use Rattle.transfer.proofs.BlockCut.{Done}

pub view_on-done : (xs : List Block) (r : List ℕ) → Done xs → state_after_blocks xs r ≡ header r
unfolding state_after_blocks state_after_block
view_on-done [] r d = refl
view_on-done (x ∷ []) r d = rw (le-ltb (length x.body) (size_of x) (omega (arith, d.1)), d.2)
view_on-done (x ∷ y ∷ xs) r d = view_on-done (y ∷ xs) r d.3

pub view_on-last : (xs : List Block) (x : Block) (r : List ℕ) → state_after_blocks (xs ++ (x ∷ [])) r ≡ state_after_block x r
unfolding state_after_blocks
view_on-last [] x r = refl
view_on-last (y ∷ []) x r = refl
view_on-last (y ∷ z ∷ xs) x r = view_on-last (z ∷ xs) x r

pub has_end-done : (xs : List Block) → Done xs → has_ended xs ≡ false
unfolding has_ended is_complete_end
has_end-done [] d = refl
has_end-done (x ∷ xs) d = rw (d.2, has_end-done xs d.3)

pub has_end-last : (xs : List Block) (x : Block) → Done xs → has_ended (xs ++ (x ∷ [])) ≡ is_complete_end x
unfolding has_ended is_complete_end
has_end-last [] x d = or-false (is_complete_end x)
has_end-last (y ∷ xs) x d = rw (has_end-last xs x d.3) (go d.2)
  where
    go : ends_channel y.head ≡ false → (is_complete_end y || is_complete_end x) ≡ is_complete_end x
    go e = rw e

pub all_but_last-last : (xs : List Block) (x : Block) → all_but_last (xs ++ (x ∷ [])) ≡ xs
unfolding all_but_last
all_but_last-last [] x = refl
all_but_last-last (y ∷ []) x = refl
all_but_last-last (y ∷ z ∷ xs) x = ap {B = List Block} (λ r. y ∷ r) (all_but_last-last (z ∷ xs) x)
