-- A block in the lent bytes: its header, behind it its bytes, and then what was there.
use Prim.Native.Nat.{ℕ, ◌+◌, ◌≤◌}
use mathlib.Core.Path.{◌≡◌, sym, ap, ◌∙◌}
use mathlib.Core.List.{List, ◌++◌}
use native.Mathlib.Omega.{arith}
use lib.ListN.{length, take, drop, length-append, length-drop}
use lib.Seq.{take-append_seam, drop-append-add, drop-drop}
use Rattle.answers.proofs.WrittenBy.{written}
use Rattle.eblock.specs.Header.{header_length, header_bytes, refusal_of, second_field, write_after}
use Rattle.eblock.proofs.HeaderAnswers.{number_0}
use Rattle.eblock.proofs.HeaderFields.{length-bytes_of}
use Rattle.copies.specs.Copy.{stored}
use Rattle.copies.proofs.CopiedBytes.{stored-is-written}

module _ (d len third : ℕ) (out : List ℕ) where
  abbrev pub head : List ℕ
  head = header_bytes d (second_field d len) third

  length-head : length head ≡ 17
  length-head = length-bytes_of d (second_field d len) third

  pub header-stored : refusal_of d third ≡ 0 → 17 ≤ length out → write_after d len third out ≡ head ++ drop 17 out
  unfolding write_after
  header-stored e h = sym (written _ header_length head out (number_0 d third out e h)).1 ∙ ap (λ n. head ++ drop n out) length-head

  pub block-stored : (file mid : List ℕ) → refusal_of d third ≡ 0 → third + len ≤ length file → 17 + len ≤ length out → mid ≡ write_after d len third out
      → stored 17 len (drop third file) mid ≡ head ++ (take len (drop third file) ++ drop (17 + len) out)
  block-stored file mid e h k m =
      let is : mid ≡ head ++ drop 17 out = m ∙ header-stored e (omega arith) in
      let long : length (head ++ drop 17 out) ≡ length out = simp (length-append, length-drop) (omega (arith, length-head)) in
      let enough : len ≤ length (drop third file) = simp length-drop (omega arith) in
      let front : take 17 (head ++ drop 17 out) ≡ head = rw length-head at (take-append_seam head (drop 17 out)) in
      let rest : drop (17 + len) (head ++ drop 17 out) ≡ drop (17 + len) out = rw length-head at (drop-append-add head (drop 17 out) len) ∙ drop-drop len 17 out in
      rw is (stored-is-written 17 len (drop third file) (head ++ drop 17 out) enough (omega (arith, long)) ∙ rw (front, rest))
