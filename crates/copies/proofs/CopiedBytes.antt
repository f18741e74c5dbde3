-- Bytes put into a part of a list.
use Prim.Native.Nat.{ℕ, ◌+◌, ◌≤◌}
use mathlib.Core.Path.{◌≡◌, ◌∙◌}
use mathlib.Core.List.{List, ◌++◌}
use native.Mathlib.Omega.{arith}
use borrow.Author.Tests.{le-leb}
use lib.ListN.{length, take, drop}
use lib.Seq.{take_all, drop-drop}
use Rattle.copies.specs.Copy.{written, stored}

-- a part from the place on, of k bytes, is the first n of the piece
pub stored_at : (at n k : ℕ) (piece file : List ℕ) → k ≡ n → take at file ++ (take n piece ++ drop k (drop at file)) ≡ written at n piece file
stored_at at n k piece file e = rw (e, drop-drop n at file)

-- a store where the piece and the file are long enough
pub stored-is-written : (at n : ℕ) (piece file : List ℕ) → n ≤ length piece → at + n ≤ length file → stored at n piece file ≡ written at n piece file
unfolding stored
stored-is-written at n piece file p f = rw (le-leb n (length piece) p, le-leb (at + n) (length file) f)

-- all of the piece
pub stored-all : (at n : ℕ) (piece file : List ℕ) → length piece ≡ n → at + n ≤ length file → stored at n piece file ≡ take at file ++ (piece ++ drop (at + n) file)
stored-all at n piece file p f = stored-is-written at n piece file (omega (arith, p)) f ∙ rw (take_all n piece (omega (arith, p)))
