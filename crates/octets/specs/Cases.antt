-- Examples as one statement over a list of cases.
use Rattle.std.specs.Prelude.{List, [], ◌∷◌}

-- the property holds for each case of the list
abbrev pub AllHold : {Case : Type 0} → (Case → Type 0) → List Case → Type 0
AllHold Holds [] = Unit {0}
AllHold Holds (c ∷ cs) = Holds c × AllHold Holds cs
