-- The rows of a beginning and of a call for the next block.
use Prim.Native.Nat.{ℕ, ◌+◌, ◌≤◌, ◌<◌}
use mathlib.Core.Path.{◌≡◌, refl, sym, ap, ◌∙◌}
use mathlib.Core.Logic.{◌⊎◌, inl, inr}
use mathlib.Core.Bool.{Bool, true, false}
use mathlib.Core.List.{◌++◌}
use native.Mathlib.Omega.{arith}
use native.Mathlib.Decide.{dec_lt}
use lib.ListN.{length}
use Rattle.answers.specs.Written.{Writes}
use Rattle.answers.proofs.WrittenBy.{refuses, writes}
use Rattle.sender.specs.declared.state.Sender.{Sender}
use Rattle.sender.specs.Blocks.{out_of_range}
use Rattle.sender.specs.Sender.{given_on, begun, begin_of, calls_can_give, NextCall, bytes_of, next_bytes, is_mismatched, call_refusal, next_refusal, next_of, next_after, moved_on}
use Rattle.sender.specs.SenderRows.{InRange, Outside, NotWritten, RefusedBeginning, Matches, blocks_for, next_block, Rows}
use Rattle.sender.proofs.BeginRange as range
use Rattle.sender.proofs.AtMost.{tested}
use Rattle.sender.proofs.Judged.{matching, most-for, wrong-range, wrong-count, wrong_size, wrong-file, wrong-given, refused-71, refused-73, refused-74, not-refused}
use Rattle.sender.proofs.Answered as answered

-- by a number above 0
module _ (s : Sender) (k : NextCall) where
  not_written : (j : ℕ) → next_refusal s k ≡ j → 0 < j → NotWritten s k j
  unfolding next_of next_after
  not_written j e h = record { answer = refuses (next_refusal s k) (length (next_bytes s k)) (next_bytes s k) k.out j e h; sender = sym (answered.refuses s k j e h).1 }

  called : (j : ℕ) → call_refusal s k ≡ j → 0 < j → NotWritten s k j
  called j e h = not_written j (answered.number-call s k (omega (arith, e)) ∙ e) h

  pub mismatch-refused : is_mismatched s k ≡ true → NotWritten s k 71
  mismatch-refused e = called 71 (refused-71 s k e) (omega arith)

  block_written : next_refusal s k ≡ 0 → Writes (next_of s k) (next_after s k) k.out ((next_block s k).head ++ (next_block s k).body) (17 + length (next_block s k).body)
  unfolding next_of next_after next_bytes bytes_of
  block_written e = rw (← answered.length-next s k) (writes (next_refusal s k) (length (next_bytes s k)) (next_bytes s k) k.out e refl)

  or_matches : NotWritten s k 71 ⊎ Matches s k
  or_matches = by (is_mismatched s k) refl
    where
      by : (b : Bool) → is_mismatched s k ≡ b → NotWritten s k 71 ⊎ Matches s k
      by true e = inl (mismatch-refused e)
      by false e = inr (matching s k e)

  no_more : Matches s k → k.channel < k.count → given_on s k.channel ≤ blocks_for k + 1
  no_more o h = omega (arith, most-for s k o h, (tested s o.given).1 k.channel)

either : (count size : ℕ) → Outside count size ⊎ InRange count size
either count size = by (dec_lt 0 count) (dec_lt 64 count) (dec_lt 0 size) (dec_lt 65536 size)
  where
    by : Dec (0 < count) → Dec (64 < count) → Dec (0 < size) → Dec (65536 < size) → Outside count size ⊎ InRange count size
    by (no a) b c d = inl (inl (inl (omega (arith, a))))
    by (yes a) (yes b) c d = inl (inl (inr b))
    by (yes a) (no b) (no c) d = inl (inr (inl (omega (arith, c))))
    by (yes a) (no b) (yes c) (yes d) = inl (inr (inr d))
    by (yes a) (no b) (yes c) (no d) = inr ((omega (arith, a), omega (arith, b)), (omega (arith, c), omega (arith, d)))

pub rows : Rows
unfolding moved_on
rows =
    record {
      row_71_range = λ s k h. mismatch-refused s k (wrong-range s k h);
      row_71_count = λ s k h. mismatch-refused s k (wrong-count s k h);
      row_71_size = λ s k h. mismatch-refused s k (wrong_size s k h);
      row_71_file = λ s k h. mismatch-refused s k (wrong-file s k h);
      row_71_given = λ s k h. mismatch-refused s k (wrong-given s k h);
      or_matches = or_matches;
      row_73 = λ s k o h. called s k 73 (refused-73 s k o h) (omega arith);
      row_74 = λ s k o h e. called s k 74 (refused-74 s k o h (omega arith)) (omega arith);
      no_more = no_more;
      row_55 = λ s k o h m l. not_written s k 55 (answered.number-55 s k (not-refused s k o h m) (omega (arith, answered.length-next s k))) (omega arith);
      row_written = λ s k o h m l.
          let e = answered.number_0 s k (not-refused s k o h m) (omega (arith, answered.length-next s k)) in
          (block_written s k e, sym (answered.writes s k e).1);
    }

-- no calls give the sender of a refused beginning
none-give : calls_can_give (begun 0 0 0) ≡ false
unfolding calls_can_give begun out_of_range
none-give = refl

refused_is : (len count size : ℕ) → Outside count size → begin_of len count size ≡ begun 0 0 0
unfolding begin_of
refused_is len count size o = rw (range.outside-is count size o)

pub refused_beginning : RefusedBeginning
unfolding begin_of begun
refused_beginning =
    record {
      refused = λ len count size o. (range.refuses count size o, refused_is len count size o);
      accepted = λ len count size r. (range.begins count size r, rw (range.within-range count size r));
      either = either;
      stays_refused = λ len count size o k. mismatch-refused (begin_of len count size) k (wrong-given (begin_of len count size) k (ap calls_can_give (refused_is len count size o) ∙ none-give));
    }
