-- Bytes written over a part of a list.
use Rattle.std.specs.Prelude.{ℕ, ◌+◌, Bool, cond, ◌&&◌, List, ◌++◌, leb, length, take, drop}

-- the piece has n bytes, and the file has them from the place `at` on
abbrev pub has_room : ℕ → ℕ → List ℕ → List ℕ → Bool
has_room at n piece file = leb n (length piece) && leb (at + n) (length file)

-- the file with the first n bytes of the piece from the place `at` on
abbrev pub written : ℕ → ℕ → List ℕ → List ℕ → List ℕ
written at n piece file = take at file ++ (take n piece ++ drop (at + n) file)

-- the same, and the file as it was where the piece or the file is too short
unfoldable pub stored : ℕ → ℕ → List ℕ → List ℕ → List ℕ
stored at n piece file = cond (has_room at n piece file) (written at n piece file) file
