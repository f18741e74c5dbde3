-- The test of FIT and what it says: each gives the other.
use Prim.Native.Nat.{ℕ, ◌*◌, ◌<◌}
use mathlib.Core.Path.{◌≡◌, refl}
use mathlib.Core.Logic.{inl, inr}
use mathlib.Core.Bool.{true, ◌&&◌}
use native.Mathlib.Omega.{arith}
use native.Mathlib.Decide.{ℕ_discrete}
use borrow.Author.Tests.{lt-ltb, le-leb, eq-eqb, ne_eqb, ltb-true, leb-true, eqb-true}
use lib.Dec.{leb, eqb}
use lib.ListN.{length}
use Rattle.ledger.specs.Pairs.{ends_at_most}
use Rattle.ledger.specs.Ledger.{obeys, pairs_of}
use Rattle.ledger.proofs.PairsPlaces.{holds-le}
use Rattle.ledger.proofs.PairsNested.{nested-held}
use Rattle.transfer.specs.declared.state.Transfer.{Transfer}
use Rattle.transfer.specs.Channel.{channel_count, held_limit, channel_at}
use Rattle.transfer.specs.Transfer.{World}
use Rattle.transfer.specs.Fit.{pair_limit, channels_fit, rests_apart, count_fits, fault_fits, claimed_fits, doubtful_fits, fits_without_file, fits}
use Rattle.transfer.specs.Fitting.{CountSays, FaultSays}
use Rattle.transfer.proofs.FitByChannel.{Together, doubts-nested, rests-of, rest-inside}
use Rattle.transfer.proofs.FitChannels.{both, ChannelSays, bytes_at, channel-says, channel-fits, zeros-byte, byte-zeros, channels-at, at-channels}
use Rattle.transfer.proofs.FitRests.{apart-says, rests-say, rests-apart}

-- ---- count and fault

count-says : (t : Transfer) → count_fits t ≡ true → CountSays t
unfolding count_fits
count-says t h = go (ℕ_discrete t.count 0)
  where
    go : Dec (t.count ≡ 0) → CountSays t
    go (yes e) = inl e
    go (no n) = let q = both _ _ (rw (ne_eqb t.count 0 n) at h) in inr (omega arith, leb-true _ _ q.0, leb-true _ _ q.1)

count-passes : (t : Transfer) → CountSays t → count_fits t ≡ true
unfolding count_fits
count-passes t (inl e) = rw e
count-passes t (inr q) = rw (ne_eqb t.count 0 (λ e. omega arith), le-leb _ _ q.1, le-leb _ _ q.2)

fault-says : (t : Transfer) → fault_fits t ≡ true → FaultSays t
unfolding fault_fits
fault-says t h = go (ℕ_discrete t.fault 0)
  where
    go : Dec (t.fault ≡ 0) → FaultSays t
    go (yes e) = inl (e, eqb-true _ _ (rw e at h))
    go (no n) =
        let q = both _ _ (rw (ne_eqb t.fault 0 n) at h) in
        let r = both _ _ q.1 in
        inr (leb-true _ _ q.0, leb-true _ _ r.0, ltb-true _ _ r.1)

fault-fits : (t : Transfer) → FaultSays t → fault_fits t ≡ true
unfolding fault_fits
fault-fits t (inl e) = rw (e.0, e.1)
fault-fits t (inr q) = rw (ne_eqb t.fault 0 (λ e. omega arith), le-leb _ _ q.0, le-leb _ _ q.1, lt-ltb _ _ q.2)

-- ---- all but the file's length

pub ledger-together : (w : World) → fits_without_file w.t w.lent.claimed w.lent.doubtful ≡ true → length w.lent.file ≡ w.t.len → Together w
unfolding fits_without_file claimed_fits doubtful_fits
ledger-together w h f =
    let t = w.t in
    let l = w.lent.claimed in
    let d = w.lent.doubtful in
    let a₀ = both (claimed_fits t l) (doubtful_fits t.pairs l d) h in
    let b₁ = both (eqb (length d) (2 * t.pairs)) _ a₀.1 in
    let b₂ = both (obeys d) _ b₁.1 in
    let a₁ = both (leb t.pairs pair_limit) _ a₀.0 in
    let a₂ = both (eqb (length l) (2 * t.pairs)) _ a₁.1 in
    let a₃ = both (obeys l) _ a₂.1 in
    let a₄ = both (ends_at_most t.len (pairs_of l)) _ a₃.1 in
    let a₅ = both (eqb (length t.channels) channel_count) _ a₄.1 in
    let a₆ = both (eqb (length t.heads) (held_limit * channel_count)) _ a₅.1 in
    let a₇ = both (channels_fit (pairs_of l) t.channels t.heads) _ a₆.1 in
    let a₈ = both (rests_apart t.channels) (count_fits t && fault_fits t) a₇.1 in
    let a₉ = both (count_fits t) (fault_fits t) a₈.1 in
    let n : length t.channels ≡ channel_count = eqb-true (length t.channels) channel_count a₅.0 in
    let s : (c : ℕ) → c < length t.channels → ChannelSays (pairs_of l) (channel_at t c) (bytes_at t.heads c) =
    λ c g. channel-says (pairs_of l) (channel_at t c) (bytes_at t.heads c) (channel_at t c).state refl (channels-at (pairs_of l) t.channels t.heads c a₇.0 g) in
    record {
      file = f;
      entries = eqb-true (length l) (2 * t.pairs) a₂.0;
      pairs = leb-true t.pairs pair_limit a₁.0;
      rule = a₃.0;
      ends = a₄.0;
      doubtful_entries = eqb-true (length d) (2 * t.pairs) b₁.0;
      doubtful_rule = b₂.0;
      doubts = nested-held (pairs_of d) (pairs_of l) b₂.1;
      channels = n;
      heads = eqb-true (length t.heads) (held_limit * channel_count) a₆.0;
      stages = λ c g. (s c (omega arith)).0;
      bytes_zero = λ c i g. zeros-byte t.heads c (channel_at t c).held (s c (omega arith)).1 i;
      rests = rests-of t.channels (pairs_of l) (λ c g. (s c g).0) (λ c g. (s c g).2)
          (λ c d p f g. apart-says (channel_at t c) (channel_at t d) (rests-say t.channels c d a₈.0 f g) p);
      count = count-says t a₉.0;
      fault = fault-says t a₉.1;
    }

pub together-ledger : (w : World) → Together w → fits_without_file w.t w.lent.claimed w.lent.doubtful ≡ true
unfolding fits_without_file claimed_fits doubtful_fits
together-ledger w f =
    let t = w.t in
    let l = w.lent.claimed in
    let d = w.lent.doubtful in
    rw (
      le-leb t.pairs pair_limit f.pairs,
      eq-eqb (length l) (2 * t.pairs) f.entries,
      f.rule,
      f.ends,
      eq-eqb (length t.channels) channel_count f.channels,
      eq-eqb (length t.heads) (held_limit * channel_count) f.heads,
      at-channels (pairs_of l) t.channels t.heads
          (λ c g. let h : c < channel_count = omega (arith, f.channels) in
          channel-fits (pairs_of l) (channel_at t c) (bytes_at t.heads c) (f.stages c h) (byte-zeros t.heads c (channel_at t c).held (λ i. f.bytes_zero c i h)) (rest-inside w f c h)),
      rests-apart t.channels (λ p. omega (arith, f.rests p, holds-le p (pairs_of l))),
      count-passes t f.count,
      fault-fits t f.fault,
      eq-eqb (length d) (2 * t.pairs) f.doubtful_entries,
      f.doubtful_rule,
      doubts-nested w f.rule f.doubtful_rule f.doubts,
    )

-- ---- the whole

pub fits-together : (w : World) → fits w ≡ true → Together w
unfolding fits
fits-together w h =
    let a = both (eqb (length w.lent.file) w.t.len) (fits_without_file w.t w.lent.claimed w.lent.doubtful) h in
    ledger-together w a.1 (eqb-true (length w.lent.file) w.t.len a.0)

pub together-fits : (w : World) → Together w → fits w ≡ true
unfolding fits
together-fits w f = rw (eq-eqb (length w.lent.file) w.t.len f.file, together-ledger w f)
