-- Reader and writer undo each other.
use Rattle.std.specs.Prelude.{ℕ, ◌^◌, ◌≤◌, ◌<◌, ◌≡◌, Ok, List, ◌++◌, length, take, drop}
use Rattle.octets.specs.Digits.{AllBelow}
use Rattle.eblock.specs.Header.{second_of, meant, read_of, write_of, write_after}
use Rattle.eblock.specs.declared.header.Header.TheVariants.{Data, Eodc}

-- the writer accepts these arguments and h is the first of the lent bytes after it
pub record WritesBack (h : List ℕ) (d len third : ℕ) (out : List ℕ) : Type 0 where
  pub accepted : write_of d third out ≡ Ok 17
  pub same : write_after d len third out ≡ h ++ drop 17 out

pub record RoundTrip : Type 0 where
  -- for every argument that the writer accepts, the reader gives what was meant
  pub reads_what_was_written : (d len third : ℕ) (out : List ℕ) → len < 2 ^ 64 → third < 2 ^ 64 → write_of d third out ≡ Ok 17
      → read_of (take 17 (write_after d len third out)) ≡ Ok (meant d len third)
  -- the writer on what the reader read of any bytes gives these bytes again
  pub writes_what_was_read : (h : List ℕ) → AllBelow 256 h → (d len offset : ℕ) → read_of h ≡ Ok (Data d len offset)
      → (out : List ℕ) → 17 ≤ length out → WritesBack h d len offset out
  -- and likewise with EODC, whatever length it is handed, where the unused field was 0
  pub writes_the_count_read : (h : List ℕ) → AllBelow 256 h → (d n : ℕ) → read_of h ≡ Ok (Eodc d n) → second_of h ≡ 0
      → (len : ℕ) (out : List ℕ) → 17 ≤ length out → WritesBack h d len n out
