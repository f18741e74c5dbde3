-- Texts whose bytes are all printable: words of letters, spaces, and `Printable`, byte by byte.
use Prim.Native.Nat.{ℕ, zero, suc, ◌≤◌, ◌<◌}
use mathlib.Core.Path.{◌≡◌, refl, sym, ◌∙◌}
use mathlib.Core.Logic.{◌⊎◌}
use mathlib.Core.Bool.{Bool, true, false, true≢false}
use mathlib.Core.List.{List}
use native.Mathlib.Omega.{arith}
use native.Mathlib.Decide.{dec_lt}
use lib.ListN.{length, get_or, replicate}
use Rattle.texts.specs.Text.{between, is_capital, is_letter, is_printable, all, leading_count}
use Rattle.texts.proofs.Texts.{between-true, between-false, true-between, false-between, each_all, all-each, all-not, leading-whole, after-leading}
use Rattle.commands.specs.Accepted.{Printable}

letter-printable : (b : ℕ) → is_letter b ≡ true → is_printable b ≡ true
letter-printable b e = go (is_capital b) refl
  where
    within : (low high : ℕ) → 32 ≤ low → high ≤ 126 → between low high b ≡ true → is_printable b ≡ true
    within low high l h p =
        let q = true-between low high b p in
        between-true 32 126 b (omega arith) (omega arith)

    go : (k : Bool) → is_capital b ≡ k → is_printable b ≡ true
    go true c = within 65 90 (omega arith) (omega arith) c
    go false c = within 97 122 (omega arith) (omega arith) (rw c at e)

pub letters-printable : (word : List ℕ) → all is_letter word ≡ true → all is_printable word ≡ true
letters-printable word h = each_all is_printable word (λ i l. letter-printable (get_or word i 0) (all-each is_letter word h i l))

pub spaces-printable : (n : ℕ) → all is_printable (replicate n 32) ≡ true
unfolding all
spaces-printable zero = refl
spaces-printable (suc n) = spaces-printable n

-- ---- byte by byte

pub printable-at : (text : List ℕ) → all is_printable text ≡ true → Printable text
printable-at text e i h = true-between 32 126 (get_or text i 0) (all-each is_printable text e i h)

pub each-printable : (text : List ℕ) → Printable text → all is_printable text ≡ true
each-printable text h = each_all is_printable text (λ i l. between-true 32 126 (get_or text i 0) (h i l).0 (h i l).1)

abbrev Outside : ℕ → Type 0
Outside b = (b < 32) ⊎ (126 < b)

pub outside-unprintable : (text : List ℕ) (i : ℕ) → i < length text → Outside (get_or text i 0) → all is_printable text ≡ false
outside-unprintable text i h o = all-not is_printable text i h (between-false 32 126 (get_or text i 0) o)

pub unprintable-at : (text : List ℕ) → all is_printable text ≡ false → (i : ℕ) × (i < length text) × Outside (get_or text i 0)
unprintable-at text e = go (dec_lt (leading_count is_printable text) (length text))
  where
    go : Dec (leading_count is_printable text < length text) → (i : ℕ) × (i < length text) × Outside (get_or text i 0)
    go (yes h) = (leading_count is_printable text, h, false-between 32 126 (get_or text (leading_count is_printable text) 0) (after-leading is_printable text h))
    go (no h) = absurd (true≢false (sym (leading-whole is_printable text (omega arith)) ∙ e))
