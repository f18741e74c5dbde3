-- What the end of the input adds, by the bytes that are left and the next record's number.
use Prim.Native.Nat.{ℕ, ◌<◌}
use mathlib.Core.Path.{◌≡◌, refl}
use mathlib.Core.List.{List, [], ◌∷◌}
use native.Mathlib.Omega.{arith}
use lib.ListN.{length}
use Rattle.nights.specs.Lines.{record_line}
use Rattle.nights.specs.Reading.{Reading, Reader, end_text}

abbrev pub end_line : List ℕ → ℕ → List ℕ
end_line [] n = []
end_line (b ∷ bs) n = record_line n

pub end_line-some : (rest : List ℕ) (n : ℕ) → 0 < length rest → end_line rest n ≡ record_line n
end_line-some [] n h = absurd (omega arith)
end_line-some (b ∷ bs) n h = refl

pub end_text-line : {W : Type 0} (f : Reader W) (r : Reading W) → end_text f r ≡ end_line r.rest (f.number r.left)
end_text-line f r = go r.rest refl
  where
    go : (rest : List ℕ) → r.rest ≡ rest → end_text f r ≡ end_line r.rest (f.number r.left)
    go [] e = unfold end_text in rw (e, end_text)
    go (b ∷ bs) e = unfold end_text in rw (e, end_text)
