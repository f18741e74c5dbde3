-- Commas: the texts between them, as the library splits a text.
use mathlib.Core.Path.{◌≡◌, refl}
use mathlib.Core.Bool.{not, not-not}
use mathlib.Core.List.{List, [], ◌∷◌}
use Prim.Native.Nat.{ℕ, ◌+◌, ◌<◌}
use native.Mathlib.Numerals.{add-one}
use lib.Dec.{eqb}
use lib.ListN.{length, get_or, drop}
use lib.Seq.{drop-cons}
use Rattle.std.specs.List.{slice_split, onto_first}
use Rattle.texts.specs.Text.{is_not_comma}
use Rattle.rangelists.specs.RangeText.{prepend_to_first, parts}

abbrev pub pieces : List ℕ → List (List ℕ)
pieces text = slice_split (λ b. not (is_not_comma b)) text

first_is : (b : ℕ) (ts : List (List ℕ)) → onto_first b ts ≡ prepend_to_first b ts
unfolding prepend_to_first
first_is b [] = refl
first_is b (t ∷ ts) = refl

pub parts-are : (text : List ℕ) → pieces text ≡ parts text
unfolding parts
parts-are [] = refl
parts-are (b ∷ bs) = rw (not-not (eqb b 44), parts-are bs, first_is b (parts bs))

-- the text that comes next
pub next_is : (ts : List (List ℕ)) (n : ℕ) (t : List ℕ) → (n < length ts) × (t ≡ get_or ts n t) → drop n ts ≡ t ∷ drop (n + 1) ts
next_is ts n t h = let i = h.0 in rw (add-one n, drop-cons ts n t, ← h.1)
