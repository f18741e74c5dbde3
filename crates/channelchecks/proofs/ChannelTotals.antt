-- One pass over the channels: what it has found before a channel, after it, and after the last.
use Prim.Native.Nat.{ℕ, ◌+◌, ◌*◌, ◌≤◌, ◌<◌}
use mathlib.Core.Path.{◌≡◌, refl, sym, ap, ◌∙◌}
use mathlib.Core.Bool.{Bool, true, false, cond, ◌&&◌}
use mathlib.Core.List.{List, [], ◌∷◌, ◌++◌, append-nil}
use native.Mathlib.Omega.{arith}
use native.Mathlib.Decide.{ℕ_discrete}
use borrow.Author.Tests.{eq-eqb, ne_eqb}
use lib.Dec.{eqb}
use lib.ListN.{length, set, take, drop, length-set, length-append}
use lib.Seq.{take-append_seam, drop-append_seam}
use Rattle.ledger.specs.Pairs.{Pairs}
use Rattle.ledger.specs.Ledger.{all_zero}
use Rattle.ledger.proofs.Zeros.{zeros-take, zeros-drop}
use Rattle.rangechecks.specs.declared.disjoint.Range.{Range}
use Rattle.transfer.specs.declared.state.Channel.{Channel}
use Rattle.transfer.specs.declared.state.Transfer.{Transfer}
use Rattle.transfer.specs.Channel.{channel_count, held_limit}
use Rattle.transfer.specs.Transfer.{sum, one_if_ended, ended_of, used_of}
use Rattle.transfer.specs.Fit.{channel_fits, channels_fit}
use Rattle.transfer.proofs.FitChannelKinds.{Stage}
use Rattle.transfer.proofs.FitChannels.{channel-says}
use Rattle.counts.proofs.Sum.{sum-cons, ended-le}
use Rattle.channelchecks.specs.declared.totals.ChannelTotals.{ChannelTotals}
use Rattle.channelchecks.specs.ChannelTotals.{with_channel, Totals}
use Rattle.channelchecks.specs.Payloads.{rest_of, rests_of}
use Rattle.channelchecks.proofs.Payloads.{packs, skips}
use Rattle.channelchecks.proofs.Used.{one_if_used, sum_used as sum_both, none_left, is-used}

-- ks and their held bytes are left of all channels, and those before them fit; p counts these, and keeps the rests of those with bytes left
pub record Passed (ps : Pairs) (t : Transfer) (ks : List Channel) (heads : List ℕ) (p : ChannelTotals) : Type 0 where
  pub few_packed : p.payloads + length ks ≤ channel_count
  pub few_used : p.used + length ks ≤ channel_count
  pub few_ended : p.ended + length ks ≤ channel_count
  pub rests_length : length p.rests ≡ channel_count
  pub heads_length : length heads ≡ held_limit * length ks
  pub fit : channels_fit ps ks heads ≡ channels_fit ps t.channels t.heads
  pub rests_all : take p.payloads p.rests ++ rests_of ks ≡ rests_of t.channels
  pub sum_used : p.used + sum one_if_used ks ≡ sum one_if_used t.channels
  pub sum_ended : p.ended + sum one_if_ended ks ≡ sum one_if_ended t.channels

-- bytes that are all 0, in two parts
pub zero-parts : (a b : List ℕ) → all_zero (a ++ b) ≡ true → (all_zero a ≡ true) × (all_zero b ≡ true)
zero-parts a b h = (rw take-append_seam at (zeros-take (length a) (a ++ b) h), rw drop-append_seam at (zeros-drop (length a) (a ++ b) h))

module _ (ps : Pairs) (t : Transfer) where
  pub passed_none : (rests : List Range) → length rests ≡ channel_count → length t.channels ≡ channel_count → length t.heads ≡ held_limit * channel_count
      → Passed ps t t.channels t.heads (record { rests = rests; payloads = 0; used = 0; ended = 0 })
  passed_none rests h n m =
      record {
        few_packed = omega (arith, n);
        few_used = omega (arith, n);
        few_ended = omega (arith, n);
        rests_length = h;
        heads_length = omega (arith, n, m);
        fit = refl;
        rests_all = refl;
        sum_used = omega arith;
        sum_ended = omega arith;
      }

  -- the channel k with its held bytes comes next
  module _ (k : Channel) (ks : List Channel) (held heads all : List ℕ) (p : ChannelTotals) (s : all ≡ held ++ heads) (h : length held ≡ held_limit) (v : Passed ps t (k ∷ ks) all p) where
    one_more : channels_fit ps (k ∷ ks) all ≡ (channel_fits ps k.state k held && channels_fit ps ks heads)
    unfolding channels_fit
    one_more =
        let a : take held_limit (held ++ heads) ≡ held = rw h at (take-append_seam held heads) in
        let b : drop held_limit (held ++ heads) ≡ heads = rw h at (drop-append_seam held heads) in
        rw (s, a, b)

    pub fails : channel_fits ps k.state k held ≡ false → channels_fit ps t.channels t.heads ≡ false
    fails f = sym v.fit ∙ one_more ∙ rw f

    module _ (f : channel_fits ps k.state k held ≡ true) where
      stage : Stage k
      stage = (channel-says ps k held k.state refl f).0

      fits_on : channels_fit ps ks heads ≡ channels_fit ps t.channels t.heads
      fits_on = sym (one_more ∙ rw f) ∙ v.fit

      rest_length : length heads ≡ held_limit * length ks
      rest_length = omega (arith, v.heads_length, simp length-append at (ap length s), h)

      passes-unused : k.state ≡ 0 → Passed ps t ks heads p
      passes-unused z =
          let l = none_left k stage z in
          let u : one_if_used k ≡ 0 = rw z in
          let e : one_if_ended k ≡ 0 = rw z in
          record {
            few_packed = omega (arith, v.few_packed);
            few_used = omega (arith, v.few_used);
            few_ended = omega (arith, v.few_ended);
            rests_length = v.rests_length;
            heads_length = rest_length;
            fit = fits_on;
            rests_all = rw (skips k ks l) v.rests_all;
            sum_used = omega (arith, v.sum_used, u, sum-cons one_if_used k ks);
            sum_ended = omega (arith, v.sum_ended, e, sum-cons one_if_ended k ks);
          }

      -- its rest is stored after those that are kept, and kept where bytes are left
      passes-used : 0 < k.state
          → Passed ps t ks heads
          (record { rests = set p.rests p.payloads (rest_of k); payloads = p.payloads + cond (eqb k.left 0) 0 1; used = p.used + 1; ended = p.ended + one_if_ended k })
      passes-used z =
          record {
            few_packed = omega (arith, v.few_packed, one (eqb k.left 0));
            few_used = omega (arith, v.few_used);
            few_ended = omega (arith, v.few_ended, ended-le k);
            rests_length = length-set p.rests p.payloads (rest_of k) ∙ v.rests_length;
            heads_length = rest_length;
            fit = fits_on;
            rests_all = packs k ks p.rests p.payloads (omega (arith, v.few_packed, v.rests_length)) ∙ v.rests_all;
            sum_used = omega (arith, v.sum_used, is-used k stage z, sum-cons one_if_used k ks);
            sum_ended = omega (arith, v.sum_ended, sum-cons one_if_ended k ks);
          }
        where
          one : (b : Bool) → cond b 0 1 ≤ 1
          one true = omega arith
          one false = omega arith

      pub passes : Passed ps t ks heads (with_channel p k)
      passes = go (ℕ_discrete k.state 0)
        where
          go : Dec (k.state ≡ 0) → Passed ps t ks heads (with_channel p k)
          go (yes z) = rw (eq-eqb k.state 0 z) (passes-unused z)
          go (no z) = rw (ne_eqb k.state 0 z) (passes-used (omega arith))

  -- after the last channel
  pub passed-all : (heads : List ℕ) (p : ChannelTotals) → Passed ps t [] heads p → (channels_fit ps t.channels t.heads ≡ true) × Totals t p
  unfolding channels_fit rests_of used_of ended_of sum
  passed-all heads p v = (
    sym v.fit,
    record {
      rests_all = rw append-nil at v.rests_all;
      used_all = omega (arith, v.sum_used, sum_both t.channels);
      ended_all = omega (arith, v.sum_ended);
      few = omega (arith, v.few_packed);
      rests_length = v.rests_length;
    },
  )
