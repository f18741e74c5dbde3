-- What cutting a channel's bytes into blocks means.
use Rattle.std.specs.Prelude.{ℕ, ◌≤◌, ◌<◌, ◌≡◌, List, [], ◌∷◌, ◌++◌, length}
use Rattle.transfer.specs.Block.{Block, size_of, block_bytes, cut, partial_header}

-- each has 17 header bytes, and all but the last have their whole payload
abbrev pub WholeButLast : List Block → Type 0
WholeButLast [] = Unit {0}
WholeButLast (x ∷ []) = (length x.head ≡ 17) × (length x.body ≤ size_of x)
WholeButLast (x ∷ y ∷ xs) = (length x.head ≡ 17) × (length x.body ≡ size_of x) × WholeButLast (y ∷ xs)

pub record Cutting : Type 0 where
  -- the blocks and the header begun after them, put back together, are the bytes
  pub together : (bs : List ℕ) → block_bytes (cut bs) ++ partial_header bs ≡ bs
  pub whole : (bs : List ℕ) → WholeButLast (cut bs)
  -- what is begun is not yet a header, and after a payload that is not whole nothing is begun
  pub begun : (bs : List ℕ) → length (partial_header bs) < 17
  pub nothing_begun : (bs : List ℕ) (front : List Block) (x : Block) → cut bs ≡ front ++ (x ∷ []) → length x.body < size_of x → partial_header bs ≡ []
