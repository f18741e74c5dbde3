-- What the verdict means, and the test that it and fault 19 share.
use Rattle.std.specs.Prelude.{ℕ, Bool, ◌&&◌, ltb, eqb}
use Rattle.transfer.specs.Transfer.{Verdict, guess, result, suspect, broken}
use Rattle.verdicts.specs.declared.verdict.Verdict.{Verdict as Shown}
use Rattle.verdicts.specs.declared.verdict.Verdict.TheVariants.{Guess, Result, Suspect, Broken}

abbrev pub to_verdict : Shown → Verdict
to_verdict Guess = guess
to_verdict Result = result
to_verdict Suspect = suspect
to_verdict Broken = broken

abbrev pub from_verdict : Verdict → Shown
from_verdict guess = Guess
from_verdict result = Result
from_verdict suspect = Suspect
from_verdict broken = Broken

-- the count of channels is known, and n is that count
abbrev pub count_reached : ℕ → ℕ → Bool
count_reached count n = ltb 0 count && eqb n count
