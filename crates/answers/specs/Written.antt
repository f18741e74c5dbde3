-- What a writer into lent bytes answers, and the lent bytes after it.
use Rattle.std.specs.Prelude.{ℕ, ◌≡◌, cond, Result, Ok, Err, List, ◌++◌, ltb, length, drop}
use Rattle.answers.specs.Refusal.{number_in}

-- what a writer answers: how many bytes were written, or the number by which it was refused
abbrev pub Written : Type 0
Written = Result ℕ ℕ

-- how many bytes it says were written, 0 where it was refused
unfoldable pub written_bytes : Written → ℕ
written_bytes (Ok n) = n
written_bytes (Err k) = 0

-- ---- the number of a refusal

-- of two numbers, in the order of their tests, the first that is not 0
unfoldable pub first_refusal : ℕ → ℕ → ℕ
first_refusal k m = cond (ltb 0 k) k m

-- 55 where fewer than n bytes are lent
unfoldable pub room_refusal : ℕ → List ℕ → ℕ
room_refusal n out = cond (ltb (length out) n) 55 0

-- ---- the answer and the lent bytes, by that number

-- refused by the number k, or n bytes written where it is 0
unfoldable pub written_by : ℕ → ℕ → Written
written_by k n = cond (ltb 0 k) (Err k) (Ok n)

-- the lent bytes afterwards: as they were where k is above 0, else the text and then the lent bytes past it
unfoldable pub written_after : ℕ → List ℕ → List ℕ → List ℕ
written_after k text out = cond (ltb 0 k) out (text ++ drop (length text) out)

-- ---- rows of a table: the answer of a writer that was lent the bytes out, and those bytes after it

-- refused by this number, and the lent bytes are unchanged
pub record Refuses (answer : Written) (after out : List ℕ) (k : ℕ) : Type 0 where
  pub number : number_in answer ≡ k
  pub bytes : written_bytes answer ≡ 0
  pub unchanged : after ≡ out

-- this text of n bytes is written, and the lent bytes after it are unchanged
pub record Writes (answer : Written) (after out text : List ℕ) (n : ℕ) : Type 0 where
  pub number : number_in answer ≡ 0
  pub bytes : written_bytes answer ≡ n
  pub after_is : after ≡ text ++ drop n out
