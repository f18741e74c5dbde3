-- A line taken apart into its text and CR LF, and the text into verb, spaces and argument.
use Prim.Native.Nat.{ℕ, suc, ◌+◌, ◌-◌, ◌≤◌}
use mathlib.Core.Path.{◌≡◌, refl, sym, ap, ◌∙◌}
use mathlib.Core.Bool.{true, and-false, and-true}
use mathlib.Core.List.{List, [], ◌∷◌, ◌++◌}
use native.Mathlib.Omega.{arith}
use borrow.Author.Tests.{le-leb}
use lib.Dec.{eqb}
use lib.Pointwise.{pointwise}
use Rattle.std.proofs.lemmas.Slice.Eq.{bytes_eq-Decides}
use lib.ListN.{length, get_or, take, drop, replicate, length-append, length-drop, take-append-drop, drop_of_length-le}
use lib.Seq.{drop-cons, drop-drop, drop-append-le, take_at, drop_at}
use Rattle.texts.specs.Text.{is_letter, is_space, leading_count}
use Rattle.commands.specs.Line.{text_of, ends_in_cr_lf, after_verb, argument_start}
use Rattle.commands.proofs.Spaces.{spaces-taken}

abbrev pub cr_lf : List ℕ
cr_lf = 13 ∷ 10 ∷ []

-- ---- CR LF

-- the suffix that the code strips
pub suffix-ends : (line : List ℕ) → pointwise eqb (drop (length line - 2) line) cr_lf ≡ ends_in_cr_lf line
unfolding ends_in_cr_lf
suffix-ends [] = refl
suffix-ends (x ∷ []) = and-false (eqb x 13)
suffix-ends (x ∷ y ∷ rest) =
    let line = x ∷ y ∷ rest in
    let n = length line in
    let a = drop-cons line (n - 2) 0 (omega arith) in
    let b = drop-cons line (n - 1) 0 (omega arith) in
    let c : drop (suc (n - 1)) line ≡ [] = drop_of_length-le line {i = suc (n - 1)} (omega arith) in
    let s : suc (n - 2) ≡ n - 1 = omega arith in
    let last : drop (n - 2) line ≡ get_or line (n - 2) 0 ∷ get_or line (n - 1) 0 ∷ [] = a ∙ rw (s, b, c) in
    rw (last, le-leb 2 n (omega arith), and-true (eqb (get_or line (n - 1) 0) 10))

-- the text and CR LF are the line
pub ends_whole : (line : List ℕ) → ends_in_cr_lf line ≡ true → line ≡ text_of line ++ cr_lf
ends_whole line h =
    let end : drop (length line - 2) line ≡ cr_lf = (bytes_eq-Decides (drop (length line - 2) line) cr_lf).0 (suffix-ends line ∙ h) in
    sym (take-append-drop (length line - 2) line) ∙ ap (λ r. text_of line ++ r) end

module _ (text : List ℕ) where
  pub ended-length : length (text ++ cr_lf) ≡ length text + 2
  ended-length = length-append text cr_lf

  pub ended-text : text_of (text ++ cr_lf) ≡ text
  ended-text = take_at text cr_lf (length (text ++ cr_lf) - 2) (omega (arith, ended-length))

  pub ended-ends : ends_in_cr_lf (text ++ cr_lf) ≡ true
  ended-ends =
      let end : drop (length (text ++ cr_lf) - 2) (text ++ cr_lf) ≡ cr_lf = drop_at text cr_lf (length (text ++ cr_lf) - 2) (omega (arith, ended-length)) in
      sym (suffix-ends (text ++ cr_lf)) ∙ (bytes_eq-Decides (drop (length (text ++ cr_lf) - 2) (text ++ cr_lf)) cr_lf).1 end

-- the end of the text is the part of the line up to the text's end
pub part-is : (line text rest : List ℕ) (from : ℕ) → line ≡ text ++ rest → from ≤ length text → take (length text - from) (drop from line) ≡ drop from text
part-is line text rest from e h = rw (e, drop-append-le from text rest h) (take_at (drop from text) rest (length text - from) (length-drop from text))

-- ---- verb, spaces, argument

pub text-whole : (text : List ℕ) → text ≡ take (leading_count is_letter text) text ++ (replicate (leading_count is_space (after_verb text)) 32 ++ drop (argument_start text) text)
unfolding after_verb argument_start
text-whole text =
    let rest = drop (leading_count is_letter text) text in
    let n = leading_count is_space rest in
    let end : drop n rest ≡ drop (leading_count is_letter text + n) text = drop-drop n (leading_count is_letter text) text in
    let parts : rest ≡ replicate n 32 ++ drop n rest = sym (take-append-drop n rest) ∙ ap (λ s. s ++ drop n rest) (spaces-taken rest) in
    sym (take-append-drop (leading_count is_letter text) text) ∙ ap (λ r. take (leading_count is_letter text) text ++ r) (parts ∙ ap (λ r. replicate n 32 ++ r) end)
