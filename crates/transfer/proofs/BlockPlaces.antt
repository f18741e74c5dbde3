-- Whether a list of blocks claims a place at all: by a payload that is not empty, and by a pair.
use Prim.Native.Nat.{ℕ, ◌<◌}
use mathlib.Core.Path.{◌≡◌}
use mathlib.Core.Logic.{◌↔◌, inl, inr}
use mathlib.Core.List.{List, [], ◌∷◌}
use native.Mathlib.Omega.{arith}
use native.Mathlib.Decide.{ℕ_discrete}
use borrow.Author.Tests.{eq-eqb, ne_eqb}
use Rattle.ledger.specs.Pairs.{Pairs, none, pair, size, contains, ObeyFrom}
use Rattle.ledger.proofs.PairsPlaces.{in_range-in, holds-le}
use Rattle.transfer.specs.Transfer.{sum}
use Rattle.transfer.specs.Block.{Block, place_of, size_of, claims_in}
use Rattle.transfer.specs.AfterList.{ClaimsPlace}
use Rattle.transfer.specs.Sending.{non_empty_payloads}
use Rattle.transfer.proofs.BlockClaims.{claims-ruled, claims-holds}
use Rattle.transfer.proofs.BlockLedger.{cover-claims, claims-cover}

abbrev pub SomePlace : List Block → Type 0
SomePlace xs = (p : ℕ) × ClaimsPlace p xs

-- ---- by a payload

payload-place : (xs : List Block) → 0 < non_empty_payloads xs → SomePlace xs
unfolding sum
payload-place [] h = absurd (omega arith)
payload-place (x ∷ xs) h = go (ℕ_discrete (size_of x) 0) (payload-place xs)
  where
    go : Dec (size_of x ≡ 0) → (0 < non_empty_payloads xs → SomePlace xs) → SomePlace (x ∷ xs)
    go (yes e) i = let r = i (omega (arith, rw (eq-eqb (size_of x) 0 e) at h)) in (r.0, inr r.1)
    go (no e) i = (place_of x, inl (omega arith, omega arith))

place-payload : (p : ℕ) (xs : List Block) → ClaimsPlace p xs → 0 < non_empty_payloads xs
unfolding sum
place-payload p [] h = absurd h
place-payload p (x ∷ xs) (inl h) = rw (ne_eqb (size_of x) 0 (λ e. omega (arith, h.0, h.1, e))) (omega arith)
place-payload p (x ∷ xs) (inr h) = omega (arith, place-payload p xs h)

pub by-payload : (xs : List Block) → (0 < non_empty_payloads xs) ↔ SomePlace xs
by-payload xs = (payload-place xs, λ r. place-payload r.0 xs r.1)

-- ---- by a pair

some-held : (lo : ℕ) (ps : Pairs) → ObeyFrom lo ps → 0 < size ps → (p : ℕ) × (contains p ps ≡ 1)
unfolding size contains
some-held lo none c h = absurd (omega arith)
some-held lo (pair a b ps) c h = (a, omega (arith, in_range-in a b a (omega arith) c.1, holds-le a ps))

held-some : (p : ℕ) (ps : Pairs) → contains p ps ≡ 1 → 0 < size ps
unfolding size contains
held-some p none h = absurd (omega (arith, h))
held-some p (pair a b ps) h = omega arith

pub by-pair : (xs : List Block) → (0 < size (claims_in xs none)) ↔ SomePlace xs
unfolding contains
by-pair xs = (
  λ h. let r = some-held 0 (claims_in xs none) (claims-ruled xs none tt) h in (r.0, cover-claims r.0 xs (omega (arith, r.1, claims-holds r.0 xs none tt))),
  λ r. held-some r.0 (claims_in xs none) (omega (arith, claims-cover r.0 xs r.1, claims-holds r.0 xs none tt)),
)
