-- What the screen shows after every list of receive calls: the tally's words and numbers.
use Rattle.std.specs.Prelude.{ℕ, ◌+◌, ◌≡◌, Ok, List, length}
use Rattle.answers.specs.Written.{room_refusal, written_by, written_after}
use Rattle.ledger.specs.Pairs.{Pairs, total}
use Rattle.transfer.specs.Transfer.{sum, World}
use Rattle.transfer.specs.Calls.{Call, after}
use Rattle.transfer.specs.Block.{size_of, doubtful_in, bytes_in}
use Rattle.transfer.specs.Tally.{Tally, blocks_of, known_count, ended_in, tally_verdict}
use Rattle.transfer.specs.AfterList.{StartedWith, tally_of}
use Rattle.verdicts.specs.Verdict.{from_verdict}
use Rattle.receiver.specs.declared.show.Shown.{Shown}
use Rattle.receiver.specs.Shown.{shown_of}
use Rattle.screen.specs.Screen.{line_text, line_of, screen_of, screen_after}

-- the payload bytes taken, and those of the ranges held from the beginning, 0 until a transfer can be resumed
abbrev pub tally_bytes : Pairs → Tally → ℕ
tally_bytes before t = bytes_in (blocks_of t.streams) + total before

-- the bytes of its payloads with bit 32, arrived or not
abbrev pub tally_doubt : Tally → ℕ
tally_doubt t = sum size_of (doubtful_in (blocks_of t.streams))

unfoldable pub tally_line : Pairs → Tally → List ℕ
tally_line before t = line_text (tally_verdict t) t.fault t.on (ended_in t.streams) (known_count t.streams) (tally_bytes before t) (tally_doubt t)

unfoldable pub tally_shown : Pairs → Tally → Shown
tally_shown before t =
    record {
      verdict = from_verdict (tally_verdict t);
      ended = ended_in t.streams;
      count = known_count t.streams;
      fault = t.fault;
      on = t.on;
      bytes = tally_bytes before t;
      doubtful = tally_doubt t;
    }

pub record ScreenTally : Type 0 where
  pub line_is : (w : World) (file : List ℕ) (R : ℕ) (before : Pairs) → StartedWith w file R before → (ks : List Call)
      → line_of (after w ks) ≡ tally_line before (tally_of (length file) R before ks)
  -- the line is never refused by 1, and the tally's is what is written
  pub answer_is : (w : World) (file : List ℕ) (R : ℕ) (before : Pairs) → StartedWith w file R before → (ks : List Call) (out : List ℕ)
      → let line = tally_line before (tally_of (length file) R before ks) in
      screen_of (after w ks).t (after w ks).lent.claimed (after w ks).lent.doubtful out ≡ written_by (room_refusal (length line) out) (length line)
  pub after_is : (w : World) (file : List ℕ) (R : ℕ) (before : Pairs) → StartedWith w file R before → (ks : List Call) (out : List ℕ)
      → let line = tally_line before (tally_of (length file) R before ks) in
      screen_after (after w ks).t (after w ks).lent.claimed (after w ks).lent.doubtful out ≡ written_after (room_refusal (length line) out) line out
  -- the same as numbers
  pub numbers_are : (w : World) (file : List ℕ) (R : ℕ) (before : Pairs) → StartedWith w file R before → (ks : List Call)
      → shown_of (after w ks).t (after w ks).lent.claimed (after w ks).lent.doubtful ≡ Ok (tally_shown before (tally_of (length file) R before ks))
