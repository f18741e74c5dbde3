-- The code's verdict, and the one it means.
use mathlib.Core.Path.{◌≡◌, refl, ap, ◌∙◌}
use Rattle.transfer.specs.Transfer.{Verdict}
use Rattle.verdicts.specs.declared.verdict.Verdict.{Verdict as Shown}
use Rattle.verdicts.specs.declared.verdict.Verdict.TheVariants.{Guess, Result, Suspect, Broken}
use Rattle.verdicts.specs.Verdict.{to_verdict, from_verdict}

same : (r : Shown) → r ≡ from_verdict (to_verdict r)
same Guess = refl
same Result = refl
same Suspect = refl
same Broken = refl

pub from-to : (r : Shown) (v : Verdict) → to_verdict r ≡ v → r ≡ from_verdict v
from-to r v e = same r ∙ ap from_verdict e
