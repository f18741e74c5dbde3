-- What is written part by part into lent bytes.
use Prim.Native.Nat.{ℕ, ◌+◌, ◌≤◌}
use mathlib.Core.Path.{◌≡◌, sym, ap, ◌∙◌}
use mathlib.Core.List.{List, ◌++◌, append_assoc}
use native.Mathlib.Omega.{arith}
use borrow.Rule.Slice.PartMut.{put_mid, mid_of}
use lib.ListN.{length, drop, length-drop}
use lib.Seq.{length-take-le, take_at, drop_at, drop-drop}
use Rattle.octets.specs.Digits.{to_little_endian}

-- o is the lent bytes out with ys, a bytes, at their front; zs are the n bytes after them
module _ (out o ys zs : List ℕ) (a n : ℕ) (front : o ≡ ys ++ drop a out) (long : length ys ≡ a) where
  pub behind : put_mid a n o zs ≡ (ys ++ zs) ++ drop (a + n) out
  behind = rw (front, take_at ys (drop a out) a long, drop_at ys (drop a out) a long, drop-drop n a out) (sym (append_assoc ys zs (drop (a + n) out)))

  -- the same where these are a number
  pub number_behind : (m : ℕ) → a + n ≤ length out → zs ≡ to_little_endian 256 (length (mid_of a n o)) m
      → put_mid a n o zs ≡ (ys ++ to_little_endian 256 n m) ++ drop (a + n) out
  number_behind m h e =
      let l : length (mid_of a n o) ≡ n =
      rw (front, drop_at ys (drop a out) a long) (length-take-le n (drop a out) (rw (length-drop a out) (omega arith))) in
      behind ∙ ap (λ z. (ys ++ z) ++ drop (a + n) out) (e ∙ ap (λ (k : ℕ). to_little_endian 256 k m) l)
