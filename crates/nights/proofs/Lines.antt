-- The line of what remains of a piece, and what a piece prints, by the answer of its call.
use Prim.Native.Nat.{ℕ, zero, suc, ◌-◌, ◌<◌}
use mathlib.Core.Path.{◌≡◌, refl, ap}
use mathlib.Core.List.{[], ◌++◌}
use native.Mathlib.Omega.{arith}
use Rattle.transfer.specs.Transfer.{World}
use Rattle.transfer.specs.Receive.{refused, took}
use Rattle.screen.specs.Screen.{line_of}
use Rattle.nights.specs.Lines.{refused_word, left_word, number_line, left_line, piece_text}

pub left-none : (n : ℕ) → n ≡ 0 → left_line n ≡ []
unfolding left_line
left-none n e = rw e

pub left-some : (n : ℕ) → 0 < n → left_line n ≡ number_line left_word n
unfolding left_line
left-some zero h = absurd (omega arith)
left-some (suc n) h = refl

module _ (w : World) (n : ℕ) where
  pub piece_text-whole : piece_text (took n) w n ≡ line_of w
  unfolding piece_text left_line
  piece_text-whole =
      let z : n - n ≡ 0 = omega arith in
      rw z

  pub piece_text-left : (t : ℕ) → t < n → piece_text (took t) w n ≡ number_line left_word (n - t) ++ line_of w
  unfolding piece_text
  piece_text-left t h = ap (λ l. l ++ line_of w) (left-some (n - t) (omega arith))

  pub piece_text-refused : (k : ℕ) → piece_text (refused k) w n ≡ number_line refused_word k
  unfolding piece_text
  piece_text-refused k = refl
