-- What the kinds say in numbers: the second number of a pair and its end, there and back, and how many bytes come before the pairs.
use Prim.Native.Nat.{ℕ, ◌≤◌}
use mathlib.Core.Path.{◌≡◌, refl}
use mathlib.Core.Bool.{Bool, true, false, cond}
use native.Mathlib.Omega.{arith}
use Rattle.savedrecords.specs.Kind.{head_length, end_of, second_of}
use Rattle.savedrecords.specs.declared.kind.Kind.{Kind}
use Rattle.savedrecords.specs.declared.kind.SecondNumber.{SecondNumber}
use Rattle.savedrecords.specs.declared.kind.SecondNumber.TheVariants.{End, Length}

pub end_of-second_of : (second : SecondNumber) (a e : ℕ) → a ≤ e → end_of second a (second_of second a e) ≡ e
end_of-second_of End a e h = refl
end_of-second_of Length a e h = omega arith

pub second_of-end_of : (second : SecondNumber) (a s : ℕ) → second_of second a (end_of second a s) ≡ s
second_of-end_of End a s = refl
second_of-end_of Length a s = omega arith

-- it is at most the end
pub second_of-le : (second : SecondNumber) (a e : ℕ) → second_of second a e ≤ e
second_of-le End a e = omega arith
second_of-le Length a e = omega arith

pub head_length-le : (kind : Kind) → head_length kind ≤ 8
head_length-le kind = go kind.sized
  where
    go : (t : Bool) → cond t 8 0 ≤ 8
    go true = omega arith
    go false = omega arith
