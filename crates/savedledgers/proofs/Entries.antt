-- Pairs in the entries of a ledger: what one turn of the loop owes that fills them, and the ledger with zeros after them.
use Prim.Native.Nat.{ℕ, suc, ◌+◌, ◌*◌, ◌-◌, ◌/◌, ◌%◌, ◌≤◌, ◌<◌}
use mathlib.Core.Path.{◌≡◌, sym, ap, ◌∙◌}
use mathlib.Core.List.{List, [], ◌∷◌, ◌++◌, append-nil}
use native.Mathlib.Omega.{arith}
use native.Mathlib.Numerals.{add-one}
use borrow.Rule.Slice.PartMut.{put_mid, mid_of, mid_len}
use lib.ListN.{length, set, take, drop, replicate, length-set, length-append, length-take, length-drop, drop_of_length-le}
use lib.Seq.{drop-drop, take-suc-set, append_snoc, take_at, drop_at}
use Rattle.ledger.specs.Pairs.{Pairs, size}
use Rattle.ledger.specs.Ledger.{capacity, laid_out}
use Rattle.ledger.proofs.LedgerLayout.{length-laid_out}
use Rattle.ledger.proofs.PairsAsNumbers.{flat, laid_out-flat}
use Rattle.savedrecords.specs.Record.{start_in, end_in, pairs_in}
use Rattle.savedrecords.specs.declared.kind.SecondNumber.{SecondNumber}

-- two entries after the first i
set-two : (es t : List ℕ) (i a e : ℕ) → i + 1 < length es → take (suc (suc i)) (set (set es i a) (suc i) e) ++ t ≡ take i es ++ (a ∷ e ∷ t)
set-two es t i a e h =
    let g : suc i < length (set es i a) = rw (length-set es i a) (omega arith) in
    let k : i < length es = omega arith in
    rw (take-suc-set (set es i a) (suc i) e g, take-suc-set es i a k) (append_snoc (take i es ++ (a ∷ [])) e t ∙ append_snoc (take i es) a (e ∷ t))

-- the pair after those that are in their entries
pub fill-turn : (second : SecondNumber) (bytes es : List ℕ) (n k a e : ℕ) → k < n → 2 * n ≤ length es → let part = drop (16 * k) bytes in
    a ≡ start_in part → e ≡ end_in second part
    → take (2 * (k + 1)) (set (set es (2 * k) a) (2 * k + 1) e) ++ laid_out (n - (k + 1)) (pairs_in second (n - (k + 1)) (drop (16 * (k + 1)) bytes))
    ≡ take (2 * k) es ++ laid_out (n - k) (pairs_in second (n - k) part)
unfolding laid_out pairs_in
fill-turn second bytes es n k a e h g s t =
    let m : n - k ≡ suc (n - (k + 1)) = omega arith in
    let q : 16 * (k + 1) ≡ 16 * k + 16 = omega arith in
    let d : 2 * (k + 1) ≡ suc (suc (2 * k)) = omega arith in
    rw (m, q, d, add-one (2 * k), ← drop-drop 16 (16 * k) bytes, ← t, ← s) (set-two es _ (2 * k) a e (omega arith))

-- ys and zs are the two parts of the ledger, the pairs and the zeros
pub load-placed : (ledger ys zs : List ℕ) (ps : Pairs) (n : ℕ) → length ledger % 2 ≡ 0 → n ≤ capacity ledger → size ps ≡ n
    → ys ≡ laid_out (length (take (2 * n) ledger) / 2) ps
    → let o = ys ++ drop (2 * n) ledger in zs ≡ replicate (length (mid_of (2 * n) (length o - 2 * n) o)) 0
    → put_mid (2 * n) (length o - 2 * n) o zs ≡ laid_out (capacity ledger) ps
load-placed ledger ys zs ps n h g k y w =
    let t = drop (2 * n) ledger in
    let o = ys ++ t in
    let c : length (take (2 * n) ledger) / 2 ≡ n = simp length-take (omega arith) in
    let z : 2 * (n - size ps) ≡ 0 = omega arith in
    let e : ys ≡ flat ps = y ∙ rw c (laid_out-flat n ps (omega arith) ∙ rw z (append-nil (flat ps))) in
    let n₁ : length ys ≡ 2 * n = ap length y ∙ rw c (length-laid_out n ps) in
    let n₂ : length t ≡ length ledger - 2 * n = length-drop (2 * n) ledger in
    let n₃ : length o - 2 * n ≡ 2 * (capacity ledger - n) = rw (length-append ys t) (omega arith) in
    let zs-are : zs ≡ replicate (length o - 2 * n) 0 = w ∙ ap (λ (k : ℕ). replicate k 0) (mid_len (2 * n) (length o) o (omega arith)) in
    let b : length t ≤ 2 * (capacity ledger - n) = omega arith in
    rw (n₃, take_at ys t (2 * n) n₁, drop_at ys t (2 * n) n₁, drop_of_length-le t b, append-nil zs, zs-are, n₃, e, ← k)
    (sym (laid_out-flat (capacity ledger) ps (omega arith)))
