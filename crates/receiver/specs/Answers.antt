-- What the answers of the receiver mean.
use Rattle.std.specs.Prelude.{ℕ, Result, Ok, Err}
use Rattle.transfer.specs.Receive.{Answer, refused, took}

-- the bytes taken, or the number of the refusal
abbrev pub to_answer : Result ℕ ℕ → Answer
to_answer (Ok n) = took n
to_answer (Err k) = refused k
