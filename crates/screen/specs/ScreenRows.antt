-- What the screen line answers and leaves, row by row (document 01, "Numbers the host sees"): 1, then 55.
use Rattle.std.specs.Prelude.{ℕ, ◌≤◌, ◌<◌, ◌≡◌, true, false, List, [], ◌∷◌, length, replicate}
use Rattle.answers.specs.Written.{Refuses, Writes}
use Rattle.ledger.specs.Ledger.{largest}
use Rattle.transfer.specs.declared.state.Transfer.{Transfer}
use Rattle.transfer.specs.Fit.{fits_without_file}
use Rattle.screen.specs.Screen.{line_for, screen_of, screen_after}

-- a transfer of the largest file, of which all bytes are claimed and doubtful, and 64 channels are counted and have ended
abbrev pub fullest : Transfer
fullest =
    record {
      len = largest;
      pairs = 1;
      count = 64;
      fault = 0;
      on = 0;
      heads = replicate 1024 0;
      channels = replicate 64 (record { state = 4; held = 0; next = 0; left = 0 });
    }

abbrev pub whole_file : List ℕ
whole_file = 0 ∷ largest ∷ []

-- the premises carry the order of the numbers
pub record ScreenRows : Type 0 where
  -- 1: transfer and ledgers don't fit
  pub row_1 : (t : Transfer) (claimed doubtful out : List ℕ) → fits_without_file t claimed doubtful ≡ false → Refuses (screen_of t claimed doubtful out) (screen_after t claimed doubtful out) out 1
  -- 55: the lent bytes are too few for the whole line
  pub row_55 : (t : Transfer) (claimed doubtful out : List ℕ) → fits_without_file t claimed doubtful ≡ true → length out < length (line_for t claimed doubtful)
      → Refuses (screen_of t claimed doubtful out) (screen_after t claimed doubtful out) out 55
  -- otherwise the line is written, and the bytes after it are unchanged
  pub row_written : (t : Transfer) (claimed doubtful out : List ℕ) → fits_without_file t claimed doubtful ≡ true → length (line_for t claimed doubtful) ≤ length out
      → Writes (screen_of t claimed doubtful out) (screen_after t claimed doubtful out) out (line_for t claimed doubtful) (length (line_for t claimed doubtful))
  -- no line has more than 80 bytes, so that with as many lent it is never refused by 55; and one has them
  pub longest : (t : Transfer) (claimed doubtful : List ℕ) → t.len ≤ largest → fits_without_file t claimed doubtful ≡ true → length (line_for t claimed doubtful) ≤ 80
  pub longest_is : (fits_without_file fullest whole_file whole_file ≡ true) × (length (line_for fullest whole_file whole_file) ≡ 80)
