-- A text written into lent bytes from a place on, whole or in steps.
use Prim.Native.Nat.{ℕ, suc, ◌+◌, ◌-◌, ◌≤◌}
use mathlib.Core.Path.{◌≡◌, sym, ap, ◌∙◌}
use mathlib.Core.List.{List, [], ◌∷◌, ◌++◌, append_assoc}
use native.Mathlib.Omega.{arith}
use native.Mathlib.Nat.{add-zero, zero-add}
use borrow.Rule.Slice.PartMut.{put_mid}
use lib.ListN.{length, set, take, drop, length-append}
use lib.Seq.{sets, sets-eq, length-sets, take_at, drop-drop}
use Rattle.answers.specs.WritesAt.{WritesAt}

-- one text after another
pub sets-append : (t u out : List ℕ) (at : ℕ) → sets (sets out at t) (at + length t) u ≡ sets out at (t ++ u)
sets-append [] u out at = rw (add-zero at)
sets-append (b ∷ t) u out at =
    let e : at + suc (length t) ≡ suc at + length t = omega arith in
    rw e (sets-append t u (set out at b) (suc at))

pub writes_at-append : (out o₁ o₂ t u : List ℕ) (at a b : ℕ) → WritesAt out at t a o₁ → WritesAt o₁ a u b o₂ → WritesAt out at (t ++ u) b o₂
writes_at-append out o₁ o₂ t u at a b p q = (omega (arith, length-append t u), q.1 ∙ rw (p.0, p.1) (sets-append t u out at))

-- what a lent part of the bytes leaves
pub sets-part : (at e : ℕ) (out text : List ℕ) → e ≡ at + length text → e ≤ length out → put_mid at (e - at) out text ≡ sets out at text
sets-part at e out text h g =
    let k : e - at ≡ length text = omega arith in
    rw (k, drop-drop (length text) at out) (sym (append_assoc (take at out) text (drop (at + length text) out)) ∙ sym (sets-eq text out at (omega arith)))

-- at the first place
pub sets_first : (text out : List ℕ) → length text ≤ length out → sets out 0 text ≡ text ++ drop (length text) out
sets_first text out h = sets-eq text out 0 (omega arith) ∙ ap (λ n. text ++ drop n out) (zero-add (length text))

-- the first bytes are the text
pub writes_at-first : (out text after : List ℕ) (end : ℕ) → length text ≤ length out → WritesAt out 0 text end after
    → (end ≤ length after) × (take end after ≡ text)
writes_at-first out text after end h w =
    let e : length text ≡ end = sym (w.0 ∙ zero-add (length text)) in
    let a : after ≡ text ++ drop (length text) out = w.1 ∙ sets_first text out h in
    (omega (arith, ap length w.1, length-sets out 0 text), rw a (take_at text (drop (length text) out) end e))
