-- All channels: what holds of each, the blocks round one channel's, and sums compared channel by channel.
use Prim.Native.Nat.{ℕ, zero, suc, ◌≤◌, ◌<◌}
use mathlib.Core.Path.{◌≡◌, refl, sym, ap, ◌∙◌}
use mathlib.Core.List.{List, [], ◌∷◌, ◌++◌, append_assoc}
use native.Mathlib.Omega.{arith}
use lib.ListN.{length, get_or, set}
use Rattle.transfer.specs.Transfer.{sum}
use Rattle.transfer.specs.Receive.{is_non_empty}
use Rattle.transfer.specs.Block.{Block}
use Rattle.transfer.specs.Tally.{Stream, intact, taken, accepted, blocks_of}
use Rattle.transfer.proofs.BlockClaims.{sum-append}
use Rattle.transfer.proofs.BlockPayloads.{Bodies, bodies-append}
use Rattle.transfer.specs.StateFrom.{state_from}
use Rattle.transfer.proofs.ChannelBytes.{no_byte, Proper, kind, kind-bodies}

-- the stream of channel c
abbrev pub stream_in : List Stream → ℕ → Stream
stream_in ss c = get_or ss c (intact [])

abbrev pub AllProper : List Stream → Type 0
AllProper [] = Unit
AllProper (s ∷ ss) = Proper s × AllProper ss

pub proper-at : (ss : List Stream) (c : ℕ) → AllProper ss → Proper (get_or ss c (intact []))
proper-at [] c a = no_byte refl
proper-at (s ∷ ss) zero a = a.0
proper-at (s ∷ ss) (suc c) a = proper-at ss c a.1

pub proper-set : (ss : List Stream) (c : ℕ) (s : Stream) → AllProper ss → Proper s → AllProper (set ss c s)
proper-set [] c s a o = tt
proper-set (x ∷ ss) zero s a o = (o, a.1)
proper-set (x ∷ ss) (suc c) s a o = (a.0, proper-set ss c s a.1 o)

pub proper-bodies : (ss : List Stream) → AllProper ss → Bodies (blocks_of ss)
unfolding blocks_of
proper-bodies [] a = tt
proper-bodies (s ∷ ss) a =
    bodies-append (accepted s) (blocks_of ss) (kind-bodies (state_from s) (accepted s) (is_non_empty (taken s)) (kind s a.0)) (proper-bodies ss a.1)

-- the blocks of all channels, round those of channel c
pub record Split (ss : List Stream) (c : ℕ) : Type 0 where
  pub front : List Block
  pub back : List Block
  pub now : blocks_of ss ≡ front ++ (accepted (get_or ss c (intact [])) ++ back)
  pub then : (s : Stream) → blocks_of (set ss c s) ≡ front ++ (accepted s ++ back)

pub split : (ss : List Stream) (c : ℕ) → c < length ss → Split ss c
unfolding blocks_of
split [] c h = absurd (omega arith)
split (x ∷ ss) zero h = record { front = []; back = blocks_of ss; now = refl; then = λ s. refl }
split (x ∷ ss) (suc c) h =
    let r : Split ss c = split ss c (omega arith) in
    record {
      front = accepted x ++ r.front;
      back = r.back;
      now = ap {B = List Block} (λ xs. accepted x ++ xs) r.now ∙ sym (append_assoc (accepted x) r.front (accepted (get_or ss c (intact [])) ++ r.back));
      then = λ s. ap {B = List Block} (λ xs. accepted x ++ xs) (r.then s) ∙ sym (append_assoc (accepted x) r.front (accepted s ++ r.back));
    }

-- a number of each block, added up channel by channel
pub sum-blocks : (w : Block → ℕ) (ss : List Stream) → sum w (blocks_of ss) ≡ sum (λ (s : Stream). sum w (accepted s)) ss
unfolding sum blocks_of
sum-blocks w [] = refl
sum-blocks w (s ∷ ss) = omega (arith, sum-append w (accepted s) (blocks_of ss), sum-blocks w ss)

-- sums compared channel by channel
pub sum-le : (f : Stream → ℕ) (ss ts : List Stream) → length ss ≡ length ts → ((c : ℕ) → f (get_or ss c (intact [])) ≤ f (get_or ts c (intact []))) → sum f ss ≤ sum f ts
unfolding sum
sum-le f [] [] e h = omega arith
sum-le f [] (t ∷ ts) e h = absurd (omega arith)
sum-le f (s ∷ ss) [] e h = absurd (omega arith)
sum-le f (s ∷ ss) (t ∷ ts) e h = omega (arith, h 0, sum-le f ss ts (omega arith) (λ c. h (suc c)))

pub sum_lt : (f : Stream → ℕ) (ss ts : List Stream) (c : ℕ) → c < length ss → length ss ≡ length ts → ((c : ℕ) → f (get_or ss c (intact [])) ≤ f (get_or ts c (intact [])))
    → f (get_or ss c (intact [])) < f (get_or ts c (intact [])) → sum f ss < sum f ts
unfolding sum
sum_lt f [] ts c k e h q = absurd (omega arith)
sum_lt f (s ∷ ss) [] c k e h q = absurd (omega arith)
sum_lt f (s ∷ ss) (t ∷ ts) zero k e h q = omega (arith, sum-le f ss ts (omega arith) (λ c. h (suc c)))
sum_lt f (s ∷ ss) (t ∷ ts) (suc c) k e h q = omega (arith, h 0, sum_lt f ss ts c (omega arith) (omega arith) (λ c. h (suc c)) q)
