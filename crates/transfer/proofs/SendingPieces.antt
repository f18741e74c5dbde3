-- The pieces that a list of calls offers, channel by channel and in all.
use Prim.Native.Nat.{ℕ, ◌+◌, ◌<◌}
use mathlib.Core.Path.{◌≡◌, refl, sym, ◌∙◌}
use mathlib.Core.Logic.{◌≢◌}
use mathlib.Core.Bool.{Bool, true, false, cond}
use mathlib.Core.List.{List, [], ◌∷◌, ◌++◌, map}
use native.Mathlib.Omega.{arith}
use borrow.Author.Tests.{eq-eqb, ne_eqb}
use lib.Dec.{eqb}
use Rattle.transfer.specs.Calls.{Call, receive}
use Rattle.transfer.specs.Block.{block_bytes}
use Rattle.transfer.specs.Sending.{SentChannel, sent_on, pieces_on, Arrival, total_piece_bytes}

pub pieces-here : (c : ℕ) (piece : List ℕ) (ks : List Call) → pieces_on c (receive c piece ∷ ks) ≡ piece ++ pieces_on c ks
unfolding pieces_on
pieces-here c piece ks = rw (eq-eqb c c refl)

pub pieces-other : (c d : ℕ) (piece : List ℕ) (ks : List Call) → d ≢ c → pieces_on d (receive c piece ∷ ks) ≡ pieces_on d ks
unfolding pieces_on
pieces-other c d piece ks n = rw (ne_eqb c d (λ e. n (sym e)))

pub pieces_none : (c d : ℕ) (ks : List Call) → pieces_on d (receive c [] ∷ ks) ≡ pieces_on d ks
unfolding pieces_on
pieces_none c d ks = go (eqb c d)
  where
    go : (b : Bool) → cond b (pieces_on d ks) (pieces_on d ks) ≡ pieces_on d ks
    go true = refl
    go false = refl

pub offered-append : (a b : List Call) → total_piece_bytes (a ++ b) ≡ total_piece_bytes a + total_piece_bytes b
unfolding total_piece_bytes
offered-append [] b = omega arith
offered-append (receive c piece ∷ a) b = omega (arith, offered-append a b)

pub some-offered : (ks : List Call) → 0 < total_piece_bytes ks → (c : ℕ) × (b : ℕ) × ((m : List ℕ) × (pieces_on c ks ≡ b ∷ m))
unfolding total_piece_bytes
some-offered [] h = absurd (omega arith)
some-offered (receive c [] ∷ ks) h = let r = some-offered ks (omega arith) in (r.0, r.1, (r.2.0, pieces_none c r.0 ks ∙ r.2.1))
some-offered (receive c (b ∷ bs) ∷ ks) h = (c, b, (bs ++ pieces_on c ks, pieces-here c (b ∷ bs) ks))

pub none-offered : (ks : List Call) → total_piece_bytes ks ≡ 0 → (c : ℕ) → pieces_on c ks ≡ []
unfolding total_piece_bytes
none-offered [] h c = unfold pieces_on in refl
none-offered (receive d [] ∷ ks) h c = pieces_none d c ks ∙ none-offered ks (omega arith) c
none-offered (receive d (b ∷ bs) ∷ ks) h c = absurd (omega arith)

-- ---- a call for each channel, with all its bytes

at_once : List SentChannel → List Call
at_once s = map (λ (x : SentChannel). receive x.number (block_bytes x.blocks)) s

arrives-at-once : (s : List SentChannel) → Arrival s (at_once s)
unfolding at_once pieces_on sent_on
arrives-at-once [] c = refl
arrives-at-once (x ∷ s) c = rw (arrives-at-once s c)

pub has_arrival : (s : List SentChannel) → (ks : List Call) × Arrival s ks
has_arrival s = (at_once s, arrives-at-once s)
