-- The verbs by their names, by computation.
use mathlib.Core.Path.{refl}
use Rattle.commands.specs.VerbNames.{bytes, VerbNames}

pub verb-names : VerbNames
unfolding bytes
verb-names = record { twelve = refl }
