-- The test of each channel and its held bytes, and what it says: each gives the other.
use Prim.Native.Nat.{ℕ, zero, suc, ◌+◌, ◌*◌, ◌-◌, ◌≤◌, ◌<◌}
use mathlib.Core.Path.{◌≡◌, refl, sym, ap, ◌∙◌}
use mathlib.Core.Logic.{◌⊎◌, inl, inr}
use mathlib.Core.Bool.{Bool, true, ◌&&◌, and-eq-true_iff, false≢true}
use mathlib.Core.List.{List, [], ◌∷◌}
use native.Mathlib.Omega.{arith}
use native.Mathlib.Decide.{dec_lt}
use borrow.Author.Tests.{lt-ltb, le-leb, ltb-true, leb-true, eqb-true}
use lib.Dec.{leb, ltb, eqb}
use lib.ListN.{length, get_or, take, drop, length-take, get_or-eq_default}
use lib.Seq.{get_or-take, get_or-drop, drop-drop}
use Rattle.ledger.specs.Pairs.{Pairs, inside}
use Rattle.ledger.specs.Ledger.{all_zero}
use Rattle.ledger.proofs.LedgerRule.{zeros-at, at-zeros}
use Rattle.transfer.specs.declared.state.Channel.{Channel}
use Rattle.transfer.specs.Channel.{held_limit, blank}
use Rattle.transfer.specs.Fit.{empty_fits, header_fits, payload_fits, channel_fits, channels_fit}
use Rattle.transfer.specs.Fitting.{InPayload}
use Rattle.transfer.proofs.FitChannelKinds.{Stage, some_left, resting, collecting, storing}

pub both : (a b : Bool) → (a && b) ≡ true → (a ≡ true) × (b ≡ true)
both a b h = (and-eq-true_iff a b).0 h

-- ---- one channel

abbrev pub Lies : Pairs → Channel → Type 0
Lies ps k = InPayload k → inside k.next (k.next + k.left) ps ≡ true

-- what the test of one channel says
abbrev pub ChannelSays : Pairs → Channel → List ℕ → Type 0
ChannelSays ps k held = Stage k × (all_zero (drop k.held held) ≡ true) × Lies ps k

module _ (ps : Pairs) (k : Channel) (held : List ℕ) where
  idle-says : (k.state ≡ 0) ⊎ (k.state ≡ 4) → empty_fits k held ≡ true → ChannelSays ps k held
  unfolding empty_fits
  idle-says e h =
      let a = both (eqb k.held 0) (all_zero held && (eqb k.next 0 && eqb k.left 0)) h in
      let b = both (all_zero held) (eqb k.next 0 && eqb k.left 0) a.1 in
      let c = both (eqb k.next 0) (eqb k.left 0) b.1 in
      let z = eqb-true k.held 0 a.0 in
      let l = eqb-true k.left 0 c.1 in
      let s = resting e z (eqb-true k.next 0 c.0) l in
      (s, rw z b.0, λ y. absurd (omega (arith, l, some_left k s y)))

  header-says : k.state ≡ 1 → header_fits k held ≡ true → ChannelSays ps k held
  unfolding header_fits
  header-says e h =
      let a = both (leb k.held held_limit) (all_zero (drop k.held held) && (eqb k.next 0 && eqb k.left 0)) h in
      let b = both (all_zero (drop k.held held)) (eqb k.next 0 && eqb k.left 0) a.1 in
      let c = both (eqb k.next 0) (eqb k.left 0) b.1 in
      let l = eqb-true k.left 0 c.1 in
      let s = collecting e (leb-true k.held held_limit a.0) (eqb-true k.next 0 c.0) l in
      (s, b.0, λ y. absurd (omega (arith, l, some_left k s y)))

  payload-says : InPayload k → payload_fits ps k held ≡ true → ChannelSays ps k held
  unfolding payload_fits
  payload-says e h =
      let a = both (eqb k.held 0) (all_zero held && (ltb 0 k.left && inside k.next (k.next + k.left) ps)) h in
      let b = both (all_zero held) (ltb 0 k.left && inside k.next (k.next + k.left) ps) a.1 in
      let c = both (ltb 0 k.left) (inside k.next (k.next + k.left) ps) b.1 in
      let z = eqb-true k.held 0 a.0 in
      (storing e z (ltb-true 0 k.left c.0), rw z b.0, λ y. c.1)

  pub channel-says : (n : ℕ) → k.state ≡ n → channel_fits ps n k held ≡ true → ChannelSays ps k held
  unfolding channel_fits
  channel-says zero e h = idle-says (inl e) h
  channel-says (suc zero) e h = header-says e h
  channel-says (suc (suc zero)) e h = payload-says (inl e) h
  channel-says (suc (suc (suc zero))) e h = payload-says (inr e) h
  channel-says (suc (suc (suc (suc zero)))) e h = idle-says (inr e) h
  channel-says (suc (suc (suc (suc (suc n))))) e h = absurd (false≢true h)

  all-zero : k.held ≡ 0 → all_zero (drop k.held held) ≡ true → all_zero held ≡ true
  all-zero h z = rw h at z

  pub channel-fits : Stage k → all_zero (drop k.held held) ≡ true → Lies ps k → channel_fits ps k.state k held ≡ true
  unfolding channel_fits empty_fits header_fits payload_fits
  channel-fits (resting (inl e) h p n) z i = rw (e, h, p, n, all-zero h z)
  channel-fits (resting (inr e) h p n) z i = rw (e, h, p, n, all-zero h z)
  channel-fits (collecting e h p n) z i = rw (e, le-leb k.held held_limit h, p, n, z)
  channel-fits (storing (inl e) h n) z i = rw (e, h, lt-ltb 0 k.left n, i (inl e), all-zero h z)
  channel-fits (storing (inr e) h n) z i = rw (e, h, lt-ltb 0 k.left n, i (inr e), all-zero h z)

-- the 16 held bytes of channel c
abbrev pub bytes_at : List ℕ → ℕ → List ℕ
bytes_at heads c = take held_limit (drop (held_limit * c) heads)

module _ (heads : List ℕ) (c n : ℕ) where
  byte_at : (j : ℕ) → n + j < held_limit → get_or (drop n (bytes_at heads c)) j 0 ≡ get_or heads (held_limit * c + (n + j)) 0
  byte_at j h = get_or-drop n (bytes_at heads c) j 0 ∙ get_or-take held_limit (drop (held_limit * c) heads) (n + j) 0 h ∙ get_or-drop (held_limit * c) heads (n + j) 0

  pub zeros-byte : all_zero (drop n (bytes_at heads c)) ≡ true → (i : ℕ) → n ≤ i → i < held_limit → get_or heads (held_limit * c + i) 0 ≡ 0
  zeros-byte z i h g =
      let e : i ≡ n + (i - n) = omega arith in
      ap (λ m. get_or heads (held_limit * c + m) 0) e ∙ sym (byte_at (i - n) (omega arith)) ∙ zeros-at (drop n (bytes_at heads c)) (i - n) z

  pub byte-zeros : ((i : ℕ) → n ≤ i → i < held_limit → get_or heads (held_limit * c + i) 0 ≡ 0) → all_zero (drop n (bytes_at heads c)) ≡ true
  byte-zeros h = at-zeros (drop n (bytes_at heads c)) (λ j. go j (dec_lt (n + j) held_limit))
    where
      go : (j : ℕ) → Dec (n + j < held_limit) → get_or (drop n (bytes_at heads c)) j 0 ≡ 0
      go j (yes g) = byte_at j g ∙ h (n + j) (omega arith) g
      go j (no g) =
          get_or-drop n (bytes_at heads c) j 0 ∙ get_or-eq_default (bytes_at heads c) 0 (omega (arith, length-take held_limit (drop (held_limit * c) heads)))

-- ---- all channels

behind : (c : ℕ) (heads : List ℕ) → drop (held_limit * c) (drop held_limit heads) ≡ drop (held_limit * suc c) heads
behind c heads = let e : held_limit * suc c ≡ held_limit + held_limit * c = omega arith in drop-drop (held_limit * c) held_limit heads ∙ rw e

pub channels-at : (ps : Pairs) (ks : List Channel) (heads : List ℕ) (c : ℕ) → channels_fit ps ks heads ≡ true → c < length ks
    → channel_fits ps (get_or ks c blank).state (get_or ks c blank) (bytes_at heads c) ≡ true
unfolding channels_fit
channels-at ps [] heads c h g = absurd (omega arith)
channels-at ps (k ∷ ks) heads zero h g = (both (channel_fits ps k.state k (take held_limit heads)) (channels_fit ps ks (drop held_limit heads)) h).0
channels-at ps (k ∷ ks) heads (suc c) h g =
    rw (sym (behind c heads)) (channels-at ps ks (drop held_limit heads) c (both (channel_fits ps k.state k (take held_limit heads)) (channels_fit ps ks (drop held_limit heads)) h).1 (omega arith))

pub at-channels : (ps : Pairs) (ks : List Channel) (heads : List ℕ) → ((c : ℕ) → c < length ks → channel_fits ps (get_or ks c blank).state (get_or ks c blank) (bytes_at heads c) ≡ true)
    → channels_fit ps ks heads ≡ true
unfolding channels_fit
at-channels ps [] heads h = refl
at-channels ps (k ∷ ks) heads h = rw (h 0 (omega arith), at-channels ps ks (drop held_limit heads) (λ c g. rw (behind c heads) (h (suc c) (omega arith))))
