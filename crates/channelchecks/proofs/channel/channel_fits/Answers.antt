-- `channel::channel_fits`.
use Prim.Native.Nat.{ℕ, zero, suc, ◌≤◌, ◌<◌}
use mathlib.Core.Path.{◌≡◌, refl, sym, ◌∙◌}
use mathlib.Core.Logic.{◌⊎◌, inl, inr}
use mathlib.Core.Bool.{Bool, true, false, ◌&&◌}
use mathlib.Core.List.{List}
use native.Mathlib.Omega.{arith}
use borrow.Author.Tests.{eq-eqb, ne_eqb, eqb-true}
use lib.Dec.{eqb}
use Rattle.ledger.specs.Pairs.{Pairs}
use Rattle.ledger.specs.Ledger.{pairs_of}
use Rattle.transfer.specs.declared.state.Channel.{Channel}
use Rattle.transfer.specs.Fit.{empty_fits, header_fits, payload_fits, channel_fits}
use Rattle.channelchecks.proofs.channel.channel_fits.Goals as goal

module _ (ps : Pairs) (k : Channel) (held : List ℕ) where
  -- nothing in use: a header of no bytes
  empty : empty_fits k held ≡ (eqb k.held 0 && header_fits k held)
  unfolding empty_fits header_fits
  empty = go (eqb k.held 0) refl
    where
      go : (b : Bool) → eqb k.held 0 ≡ b → empty_fits k held ≡ (b && header_fits k held)
      go true e = rw (eqb-true k.held 0 e)
      go false e = rw e

  resting : (s : ℕ) → (s ≡ 0) ⊎ (s ≡ 4) → (eqb k.held 0 && header_fits k held) ≡ channel_fits ps s k held
  unfolding channel_fits
  resting s (inl e) = rw e (sym empty)
  resting s (inr e) = rw e (sym empty)

  collecting : (s : ℕ) → s ≡ 1 → header_fits k held ≡ channel_fits ps s k held
  unfolding channel_fits
  collecting s e = rw e

  storing : (s : ℕ) → ((s ≡ 0) ⊎ (s ≡ 4) → ⊥) → (s ≡ 1 → ⊥) → s < 4 → payload_fits ps k held ≡ channel_fits ps s k held
  unfolding channel_fits
  storing zero f g h = absurd (f (inl refl))
  storing (suc zero) f g h = absurd (g refl)
  storing (suc (suc zero)) f g h = refl
  storing (suc (suc (suc zero))) f g h = refl
  storing (suc (suc (suc (suc s)))) f g h = absurd (omega arith)

  no-state : (s : ℕ) → ((s ≡ 0) ⊎ (s ≡ 4) → ⊥) → 4 ≤ s → false ≡ channel_fits ps s k held
  unfolding channel_fits
  no-state zero f h = absurd (omega arith)
  no-state (suc zero) f h = absurd (omega arith)
  no-state (suc (suc zero)) f h = absurd (omega arith)
  no-state (suc (suc (suc zero))) f h = absurd (omega arith)
  no-state (suc (suc (suc (suc zero)))) f h = absurd (f (inr refl))
  no-state (suc (suc (suc (suc (suc s))))) f h = refl

pub returns-then-k-eq0 : goal.returns-then-k-eq0
returns-then-k-eq0 c =
    let x = c.args in
    c.header_fits.ensures ∙ rw (eq-eqb x.k.held 0 c.if-k-eq0.true) at (resting (pairs_of x.ledger.entries.now) x.k x.held.now.bytes.now x.k.state c.in-0.is)

pub returns-else-k-eq0 : goal.returns-else-k-eq0
returns-else-k-eq0 c =
    let x = c.args in
    let e = ne_eqb x.k.held 0 c.if-k-eq0.false in
    e ∙ rw e at (resting (pairs_of x.ledger.entries.now) x.k x.held.now.bytes.now x.k.state c.in-0.is)

pub returns-in-1 : goal.returns-in-1
returns-in-1 c =
    let x = c.args in
    c.header_fits-in-1.ensures ∙ collecting (pairs_of x.ledger.entries.now) x.k x.held.now.bytes.now x.k.state c.in-1.is

pub returns-in-2 : goal.returns-in-2
returns-in-2 c =
    let x = c.args in
    let d = c.in-2.in_default-own in
    c.payload_fits.ensures ∙ storing (pairs_of x.ledger.entries.now) x.k x.held.now.bytes.now x.k.state d.rest.0.1 d.rest.1 c.in-2.if-k-lt4-own.true

pub returns-in_default : goal.returns-in_default
returns-in_default c =
    let x = c.args in
    no-state (pairs_of x.ledger.entries.now) x.k x.held.now.bytes.now x.k.state c.in_default.in_default-own.rest.0.1 c.in_default.if-k-lt4-own.false
