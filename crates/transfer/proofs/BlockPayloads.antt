-- What a list of blocks puts into a file: each payload byte at its place.
use Prim.Native.Nat.{ℕ, suc, ◌+◌, ◌≤◌, ◌<◌}
use mathlib.Core.Path.{◌≡◌, refl, sym, ap, ◌∙◌}
use mathlib.Core.Logic.{◌⊎◌, inl, inr, ⊎_elim}
use mathlib.Core.List.{List, [], ◌∷◌, ◌++◌}
use native.Mathlib.Omega.{arith}
use lib.ListN.{length, set}
use lib.Seq.{sets, length-sets, set_comm}
use Rattle.ledger.proofs.PairsPlaces.{in_range-in, Where, under, within, past, stand}
use Rattle.transfer.specs.Transfer.{sum}
use Rattle.transfer.specs.Block.{Block, block, place_of, size_of, with_payloads}
use Rattle.transfer.proofs.BlockClaims.{sum-append, hit_by, cover}

pub sets-snoc : (f : List ℕ) (o : ℕ) (p : List ℕ) (b : ℕ) → sets f o (p ++ b ∷ []) ≡ set (sets f o p) (o + length p) b
sets-snoc f o [] b = ap (λ k. set f k b) (omega arith)
sets-snoc f o (x ∷ p) b = sets-snoc (set f o x) (suc o) p b ∙ ap (λ k. set (sets (set f o x) (suc o) p) k b) (omega arith)

sets-set : (f : List ℕ) (o : ℕ) (p : List ℕ) (q b : ℕ) → (q < o) ⊎ (o + length p ≤ q) → sets (set f q b) o p ≡ set (sets f o p) q b
sets-set f o [] q b h = refl
sets-set f o (x ∷ p) q b h =
    ap (λ g. sets g (suc o) p) (set_comm f q o b x (λ e. ⊎_elim (λ (y : q < o). omega arith) (λ (y : o + suc (length p) ≤ q). omega arith) h))
    ∙ sets-set (set f o x) (suc o) p q b (⊎_elim (λ (y : q < o). inl (omega arith)) (λ (y : o + suc (length p) ≤ q). inr (omega arith)) h)

pub with_payloads-append : (a b : List Block) (f : List ℕ) → with_payloads (a ++ b) f ≡ with_payloads a (with_payloads b f)
unfolding with_payloads
with_payloads-append [] b f = refl
with_payloads-append (x ∷ a) b f = ap (λ g. sets g (place_of x) x.body) (with_payloads-append a b f)

pub length-with_payloads : (a : List Block) (f : List ℕ) → length (with_payloads a f) ≡ length f
unfolding with_payloads
length-with_payloads [] f = refl
length-with_payloads (x ∷ a) f = length-sets (with_payloads a f) (place_of x) x.body ∙ length-with_payloads a f

-- no body is longer than its header says
abbrev pub Bodies : List Block → Type 0
Bodies [] = Unit
Bodies (x ∷ l) = (length x.body ≤ size_of x) × Bodies l

pub bodies-append : (a b : List Block) → Bodies a → Bodies b → Bodies (a ++ b)
bodies-append [] b h k = k
bodies-append (x ∷ a) b h k = (h.0, bodies-append a b h.1 k)

pub bodies-left : (a b : List Block) → Bodies (a ++ b) → Bodies a
bodies-left [] b h = tt
bodies-left (x ∷ a) b h = (h.0, bodies-left a b h.1)

pub with_payloads-set : (a : List Block) (f : List ℕ) (q b : ℕ) → Bodies a → cover q a ≡ 0 → with_payloads a (set f q b) ≡ set (with_payloads a f) q b
unfolding with_payloads sum
with_payloads-set [] f q b k h = refl
with_payloads-set (x ∷ a) f q b k h =
    ap (λ g. sets g (place_of x) x.body) (with_payloads-set a f q b k.1 (omega arith))
    ∙ sets-set (with_payloads a f) (place_of x) x.body q b (go (stand (place_of x) (place_of x + size_of x) q))
  where
    go : Where (place_of x) (place_of x + size_of x) q → (q < place_of x) ⊎ (place_of x + length x.body ≤ q)
    go (under y z) = inl y
    go (within y z w) = absurd (omega arith)
    go (past y z w) = inr (omega arith)

abbrev pub longer : Block → ℕ → Block
longer x b = block x.head (x.body ++ b ∷ [])

-- one more payload byte is one store
pub with_payloads-extend : (a : List Block) (x : Block) (c : List Block) (f : List ℕ) (b : ℕ) → Bodies a → length x.body < size_of x → ((q : ℕ) → cover q (a ++ x ∷ c) ≤ 1)
    → with_payloads (a ++ longer x b ∷ c) f ≡ set (with_payloads (a ++ x ∷ c) f) (place_of x + length x.body) b
unfolding with_payloads sum
with_payloads-extend a x c f b k h d =
    with_payloads-append a (longer x b ∷ c) f
    ∙ ap (with_payloads a) (sets-snoc (with_payloads c f) (place_of x) x.body b)
    ∙ with_payloads-set a (sets (with_payloads c f) (place_of x) x.body) q b k
    (omega (arith, d q, sum-append (hit_by q) a (x ∷ c), in_range-in (place_of x) (place_of x + size_of x) q (omega arith) (omega arith)))
    ∙ ap (λ g. set g q b) (sym (with_payloads-append a (x ∷ c) f))
  where
    q : ℕ
    q = place_of x + length x.body

pub with_payloads-insert : (a : List Block) (x : Block) (c : List Block) (f : List ℕ) → x.body ≡ [] → with_payloads (a ++ x ∷ c) f ≡ with_payloads (a ++ c) f
unfolding with_payloads
with_payloads-insert a x c f h = rw (with_payloads-append a (x ∷ c) f, with_payloads-append a c f, h)

-- a payload that shares no place with the blocks a
with_payloads-sets : (a : List Block) (f : List ℕ) (o : ℕ) (p : List ℕ) → Bodies a → ((q : ℕ) → o ≤ q → q < o + length p → cover q a ≡ 0) → with_payloads a (sets f o p) ≡ sets (with_payloads a f) o p
with_payloads-sets a f o [] k h = refl
with_payloads-sets a f o (x ∷ p) k h =
    with_payloads-sets a (set f o x) (suc o) p k (λ q l m. h q (omega arith) (omega arith)) ∙ ap (λ g. sets g (suc o) p) (with_payloads-set a f o x k (h o (omega arith) (omega arith)))

-- blocks that share no place may come in another order
pub with_payloads-moved : (a b c : List Block) (f : List ℕ) → Bodies a → Bodies b → ((q : ℕ) → cover q (a ++ (b ++ c)) ≤ 1) → with_payloads (a ++ (b ++ c)) f ≡ with_payloads (b ++ (a ++ c)) f
unfolding with_payloads sum
with_payloads-moved a [] c f k l d = refl
with_payloads-moved a (x ∷ b) c f k l d =
    with_payloads-append a (x ∷ (b ++ c)) f
    ∙ with_payloads-sets a (with_payloads (b ++ c) f) (place_of x) x.body k
    (λ q g h. omega (arith, d q, sum-append (hit_by q) a (x ∷ (b ++ c)), in_range-in (place_of x) (place_of x + size_of x) q g (omega (arith, l.0))))
    ∙ ap (λ g. sets g (place_of x) x.body)
    (sym (with_payloads-append a (b ++ c) f) ∙ with_payloads-moved a b c f k l.1 (λ q. omega (arith, d q, sum-append (hit_by q) a (x ∷ (b ++ c)), sum-append (hit_by q) a (b ++ c))))
