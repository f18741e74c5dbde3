-- Lists of host-ports with the same values are written in the same bytes, and no value is 0.
use Prim.Native.Nat.{ℕ, zero, suc, ◌<◌}
use mathlib.Core.Path.{◌≡◌, refl, ap}
use mathlib.Core.List.{List, [], ◌∷◌, ◌++◌}
use native.Mathlib.Omega.{arith}
use lib.ListN.{length, get_or, replicate}
use Rattle.hostports.specs.HostPorts.{HostPortNumerals}
use Rattle.hostports.proofs.HostPortsWritten.{port-is-not-0}
use Rattle.hostports.proofs.HostPortsOnce.{written_once}
use Rattle.hostlists.specs.HostLists.{with_spaces, value, values}

first-same : (v w : ℕ) (vs ws : List ℕ) → v ∷ vs ≡ w ∷ ws → v ≡ w
first-same v w vs ws e = cc

rest-same : (v w : ℕ) (vs ws : List ℕ) → v ∷ vs ≡ w ∷ ws → vs ≡ ws
rest-same v w vs ws e = cc

pub same_text : (hs is : List HostPortNumerals) → values hs ≡ values is → with_spaces hs ≡ with_spaces is
unfolding with_spaces values
same_text [] [] e = refl
same_text [] (i ∷ is) e = absurd (omega (arith, ap length e))
same_text (h ∷ hs) [] e = absurd (omega (arith, ap length e))
same_text (h ∷ []) (i ∷ []) e = written_once h i (first-same (value h) (value i) [] [] e)
same_text (h ∷ []) (i ∷ j ∷ is) e = absurd (omega (arith, ap length e))
same_text (h ∷ g ∷ hs) (i ∷ []) e = absurd (omega (arith, ap length e))
same_text (h ∷ g ∷ hs) (i ∷ j ∷ is) e =
    rw (written_once h i (first-same (value h) (value i) (values (g ∷ hs)) (values (j ∷ is)) e), same_text (g ∷ hs) (j ∷ is) (rest-same (value h) (value i) (values (g ∷ hs)) (values (j ∷ is)) e))

-- ---- entries that are not 0, and zeros after them

abbrev pub NoneZero : List ℕ → Type 0
NoneZero [] = Unit {0}
NoneZero (v ∷ vs) = (0 < v) × NoneZero vs

pub values-not-0 : (hs : List HostPortNumerals) → NoneZero (values hs)
unfolding values
values-not-0 [] = tt
values-not-0 (h ∷ hs) = (omega (arith, port-is-not-0 h), values-not-0 hs)

zero-entry : (n : ℕ) → ◌≡◌ {A = ℕ} (get_or (replicate n 0) 0 0) 0
zero-entry zero = refl
zero-entry (suc n) = refl

same-before-zeros : (vs ws : List ℕ) (m n : ℕ) → NoneZero vs → NoneZero ws → ((i : ℕ) → get_or (vs ++ replicate m 0) i 0 ≡ get_or (ws ++ replicate n 0) i 0) → vs ≡ ws
same-before-zeros [] [] m n p q e = refl
same-before-zeros [] (w ∷ ws) m n p q e = absurd (omega (arith, zero-entry m, e 0))
same-before-zeros (v ∷ vs) [] m n p q e = absurd (omega (arith, zero-entry n, e 0))
same-before-zeros (v ∷ vs) (w ∷ ws) m n p q e =
    let first : v ≡ w = e 0 in
    rw (first, same-before-zeros vs ws m n p.1 q.1 (λ i. e (suc i)))

-- two lists of entries that agree at every index, an entry past the end being 0
pub same_entries : (xs ys vs ws : List ℕ) (m n : ℕ) → xs ≡ vs ++ replicate m 0 → ys ≡ ws ++ replicate n 0 → NoneZero vs → NoneZero ws → ((i : ℕ) → get_or xs i 0 ≡ get_or ys i 0) → vs ≡ ws
same_entries xs ys vs ws m n d e p q same = same-before-zeros vs ws m n p q (λ i. rw (← d, ← e) (same i))
