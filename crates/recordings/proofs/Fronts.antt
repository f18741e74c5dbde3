-- Fronts of lists: a text at the front of lent bytes, and one behind another.
use Prim.Native.Nat.{ℕ, min, ◌+◌, ◌-◌, ◌≤◌}
use mathlib.Core.Path.{◌≡◌, sym, ap, ◌∙◌}
use mathlib.Core.List.{List, [], ◌++◌, append_assoc, append-nil}
use native.Mathlib.Omega.{arith}
use native.Mathlib.Decide.{dec_le}
use borrow.Rule.Slice.PartMut.{put_mid}
use lib.ListN.{length, take, drop, length-append, length-drop, drop_of_length-le}
use lib.Seq.{take_all, take_at, drop_at, drop-drop}
use Rattle.octets.proofs.Rest.{rest_is}
use Rattle.recordings.specs.Kept.{put_front, WritesFront}
use Rattle.recordings.specs.Steps.{text_limit, WritesText}

-- the lent bytes are as many
pub length-after : (text out after : List ℕ) (n : ℕ) → WritesText text out n after → text_limit ≤ length out → length after ≡ length out
length-after text out after n w h = rw w.1.1 (simp (length-append, length-drop) (omega (arith, w.0)))

-- ---- lent from the place a on

rest_put : (xs : List ℕ) (a : ℕ) (ys : List ℕ) → put_mid a (length xs - a) xs ys ≡ take a xs ++ ys
rest_put xs a ys =
    let z : drop (length xs - a) (drop a xs) ≡ [] = drop_of_length-le (drop a xs) {i = length xs - a} (simp length-drop (omega arith)) in
    rw (z, append-nil)

-- a text behind another
pub front-append : (t u out after ys : List ℕ) (a b : ℕ) → WritesFront t out a after → WritesFront u (take (length after - a) (drop a after)) b ys
    → WritesFront (t ++ u) out (a + b) (put_mid a (length after - a) after ys)
front-append t u out after ys a b p q =
    let n : length t ≡ a = sym p.0 in
    let front : take a after ≡ t = rw p.1 (take_at t (drop (length t) out) a n) in
    let rest : drop a after ≡ drop a out = rw p.1 (drop_at t (drop (length t) out) a n ∙ ap (λ k. drop k out) n) in
    let behind : ys ≡ put_front u (drop a out) = q.1 ∙ ap (put_front u) (rest_is after a ∙ rest) in (
      omega (arith, length-append t u, p.0, q.0),
      rest_put after a ys ∙ rw (front, behind, drop-drop (length u) a out, length-append t u, n) (sym (append_assoc t u (drop (a + length u) out))),
    )

-- ---- fronts of some length

-- as long as they say, or all there is
pub take_same : (a b : ℕ) (xs : List ℕ) → min a (length xs) ≡ min b (length xs) → take a xs ≡ take b xs
take_same a b xs e = go (dec_le (length xs) a)
  where
    go : Dec (length xs ≤ a) → take a xs ≡ take b xs
    go (yes h) = take_all a xs h ∙ sym (take_all b xs (omega arith))
    go (no h) =
        let s : a ≡ b = omega arith in
        ap (λ n. take n xs) s

-- what was lent at the fronts of two lists, n of each

pub fronts-back : {X : Type 0} (f : List ℕ → List ℕ → X) (l m l₀ m₀ : List ℕ) (n : ℕ) → length l ≡ n → length m ≡ n
    → f (take n (l ++ drop n l₀)) (take n (m ++ drop n m₀)) ≡ f l m
fronts-back f l m l₀ m₀ n a b = rw (take_at l (drop n l₀) n a, take_at m (drop n m₀) n b)
