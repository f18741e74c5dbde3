-- What 71, 73 and 74 ask, as the rows of the table say it.
use Prim.Native.Nat.{ℕ, ◌+◌, ◌≤◌, ◌<◌}
use mathlib.Core.Path.{◌≡◌, refl}
use mathlib.Core.Logic.{◌≢◌}
use mathlib.Core.Bool.{Bool, true, false, not, or-true}
use native.Mathlib.Omega.{arith}
use native.Mathlib.Decide.{dec_lt, dec_le}
use lib.ListN.{length}
use borrow.Author.Tests.{le-leb, lt-leb, eq-eqb, ne_eqb, eqb-true, not-false}
use Rattle.std.proofs.lemmas.Bool.{or_parts}
use Rattle.sender.specs.declared.state.Sender.{Sender}
use Rattle.sender.specs.Blocks.{out_of_range}
use Rattle.sender.specs.Sender.{given_on, begin_refusal, most_on, all_at_most, calls_can_give, NextCall, numbers_wrong, is_mismatched, ending_sent, call_refusal}
use Rattle.sender.specs.SenderRows.{InRange, Outside, Matches, blocks_for}
use Rattle.sender.proofs.BeginRange.{outside-is, within-range, in-range}
use Rattle.sender.proofs.AtMost.{most-below}

pub range-of : (count size : ℕ) → out_of_range count size ≡ false → InRange count size
unfolding begin_refusal
range-of count size e = in-range count size (rw e)

module _ (s : Sender) (k : NextCall) where
  -- ---- 71: any one of its tests

  pub wrong-when : out_of_range k.count k.size ≡ true → is_mismatched s k ≡ true
  unfolding numbers_wrong is_mismatched
  wrong-when e = rw e

  pub wrong-range : Outside k.count k.size → is_mismatched s k ≡ true
  wrong-range h = wrong-when (outside-is k.count k.size h)

  pub wrong-count : k.count ≢ s.count → is_mismatched s k ≡ true
  unfolding numbers_wrong is_mismatched
  wrong-count n = simp (ne_eqb k.count s.count n, or-true)

  pub wrong_size : k.size ≢ s.size → is_mismatched s k ≡ true
  unfolding numbers_wrong is_mismatched
  wrong_size n = simp (ne_eqb k.size s.size n, or-true)

  pub wrong-file : length k.file ≢ s.len → is_mismatched s k ≡ true
  unfolding numbers_wrong is_mismatched
  wrong-file n = simp (ne_eqb (length k.file) s.len n, or-true)

  pub wrong-given : calls_can_give s ≡ false → is_mismatched s k ≡ true
  unfolding is_mismatched
  wrong-given e = simp (e, or-true)

  pub wrong-numbers : numbers_wrong s k.count k.size (length k.file) ≡ true → is_mismatched s k ≡ true
  unfolding is_mismatched
  wrong-numbers e = rw e

  -- where they are right it is left to those given
  pub right-range : numbers_wrong s k.count k.size (length k.file) ≡ false → InRange k.count k.size
  unfolding numbers_wrong
  right-range e = range-of k.count k.size (or_parts _ _ e).0

  pub by-given : numbers_wrong s k.count k.size (length k.file) ≡ false → is_mismatched s k ≡ not (all_at_most (most_on (length k.file) k.count k.size) 0 s.given)
  unfolding numbers_wrong is_mismatched calls_can_give
  by-given e =
      let a = or_parts _ _ e in
      let b = or_parts _ _ a.1 in
      let c = or_parts _ _ b.1 in
      let range : out_of_range k.count k.size ≡ false = a.0 in
      let counts : k.count ≡ s.count = eqb-true k.count s.count (not-false _ b.0) in
      let sizes : k.size ≡ s.size = eqb-true k.size s.size (not-false _ c.0) in
      let lengths : length k.file ≡ s.len = eqb-true (length k.file) s.len (not-false _ c.1) in
      rw (range, ← counts, ← sizes, ← lengths, range, eq-eqb k.count k.count refl, eq-eqb k.size k.size refl, eq-eqb (length k.file) (length k.file) refl)

  -- none of them
  pub none-wrong : Matches s k → is_mismatched s k ≡ false
  unfolding numbers_wrong is_mismatched
  none-wrong o = simp (within-range k.count k.size o.range, eq-eqb k.count s.count o.count, eq-eqb k.size s.size o.size, eq-eqb (length k.file) s.len o.file, o.given)

  pub matching : is_mismatched s k ≡ false → Matches s k
  unfolding numbers_wrong is_mismatched
  matching e =
      let all = or_parts _ _ e in
      let a = or_parts _ _ all.0 in
      let b = or_parts _ _ a.1 in
      let c = or_parts _ _ b.1 in
      record {
        range = range-of k.count k.size a.0;
        count = eqb-true k.count s.count (not-false _ b.0);
        size = eqb-true k.size s.size (not-false _ c.0);
        file = eqb-true (length k.file) s.len (not-false _ c.1);
        given = not-false _ all.1;
      }

  -- ---- 74: the channel's blocks and its ending are given

  pub most-for : Matches s k → k.channel < k.count → most_on s.len s.count s.size k.channel ≡ blocks_for k + 1
  most-for o h = rw (← o.count, ← o.size, ← o.file) (most-below (length k.file) k.count k.size k.channel h)

  pub ending-sent : Matches s k → k.channel < k.count → blocks_for k + 1 ≤ given_on s k.channel → ending_sent s k.channel ≡ true
  unfolding ending_sent
  ending-sent o h e = le-leb (most_on s.len s.count s.size k.channel) (given_on s k.channel) (omega (arith, most-for o h))

  pub ending-not-sent : Matches s k → k.channel < k.count → given_on s k.channel ≤ blocks_for k → ending_sent s k.channel ≡ false
  unfolding ending_sent
  ending-not-sent o h e = lt-leb (most_on s.len s.count s.size k.channel) (given_on s k.channel) (omega (arith, most-for o h))

  -- ---- the number

  pub refused-71 : is_mismatched s k ≡ true → call_refusal s k ≡ 71
  unfolding call_refusal
  refused-71 e = rw e

  pub refused-73 : Matches s k → k.count ≤ k.channel → call_refusal s k ≡ 73
  unfolding call_refusal
  refused-73 o h = rw (none-wrong o, le-leb k.count k.channel h)

  pub refused-74 : Matches s k → k.channel < k.count → blocks_for k + 1 ≤ given_on s k.channel → call_refusal s k ≡ 74
  unfolding call_refusal
  refused-74 o h e = rw (none-wrong o, lt-leb k.count k.channel h, ending-sent o h e)

  pub not-refused : Matches s k → k.channel < k.count → given_on s k.channel ≤ blocks_for k → call_refusal s k ≡ 0
  unfolding call_refusal
  not-refused o h e = rw (none-wrong o, lt-leb k.count k.channel h, ending-not-sent o h e)

  -- a call that none of the three refuses
  pub accepted : call_refusal s k ≡ 0 → Matches s k × (k.channel < k.count) × (given_on s k.channel ≤ blocks_for k)
  accepted e = by (is_mismatched s k) refl (dec_lt k.channel k.count)
    where
      by : (b : Bool) → is_mismatched s k ≡ b → Dec (k.channel < k.count) → Matches s k × (k.channel < k.count) × (given_on s k.channel ≤ blocks_for k)
      by true n d = absurd (omega (arith, e, refused-71 n))
      by false n (no g) = absurd (omega (arith, e, refused-73 (matching n) (omega (arith, g))))
      by false n (yes h) = given (dec_le (given_on s k.channel) (blocks_for k))
        where
          given : Dec (given_on s k.channel ≤ blocks_for k) → Matches s k × (k.channel < k.count) × (given_on s k.channel ≤ blocks_for k)
          given (yes l) = (matching n, h, l)
          given (no g) = absurd (omega (arith, e, refused-74 (matching n) h (omega (arith, g))))
