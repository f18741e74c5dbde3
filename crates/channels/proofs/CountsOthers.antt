-- A channel of a transfer that fits: written back unchanged it leaves the transfer, and the counts less this channel are those of the others.
use Prim.Native.Nat.{ℕ, ◌+◌, ◌*◌, ◌-◌, ◌≤◌, ◌<◌}
use mathlib.Core.Path.{◌≡◌, refl, sym, ap, ◌∙◌}
use mathlib.Core.Logic.{inl, inr}
use mathlib.Core.Bool.{cond}
use mathlib.Core.List.{List, ◌++◌}
use native.Mathlib.Omega.{arith}
use native.Mathlib.Decide.{ℕ_discrete}
use borrow.Author.Tests.{ne_eqb}
use lib.Dec.{eqb}
use lib.ListN.{length, take, drop, set, take-append-drop}
use lib.Seq.{set-get_or, drop-drop}
use Rattle.channelchecks.specs.declared.report.FitReport.{FitReport}
use Rattle.transfer.specs.declared.state.Channel.{Channel}
use Rattle.transfer.specs.declared.state.Transfer.{Transfer}
use Rattle.transfer.specs.Channel.{channel_count, held_limit, blank, channel_at}
use Rattle.transfer.specs.Transfer.{sum, one_if_ended, one_if_active, ended_of, used_of, World}
use Rattle.transfer.proofs.FitChannelKinds.{Stage, resting, collecting, storing}
use Rattle.transfer.proofs.Sums.{sum-set, one_of}
use Rattle.transfer.proofs.FitByChannel.{Together}
use Rattle.channels.specs.declared.channel_state.ChannelState.{ChannelState}
use Rattle.channels.specs.ChannelState.{channel_of, channel_state_of, write_back}
use Rattle.channels.specs.OtherChannels.{others_of, CountsOthers}

pub write-back-unchanged : (t : Transfer) (c : ℕ) → write_back t c (channel_state_of t.count t.fault t.on (channel_at t c) t.heads c) ≡ t
unfolding write_back channel_state_of
write-back-unchanged t c =
    let h = t.heads in
    let e : take (held_limit * c) h ++ (take held_limit (drop (held_limit * c) h) ++ drop (held_limit * c + held_limit) h) ≡ h =
    ap (λ x. take (held_limit * c) h ++ (take held_limit (drop (held_limit * c) h) ++ x)) (sym (drop-drop held_limit (held_limit * c) h))
    ∙ ap (λ x. take (held_limit * c) h ++ x) (take-append-drop held_limit (drop (held_limit * c) h)) ∙ take-append-drop (held_limit * c) h in
    rw (e, set-get_or t.channels c blank)

-- written back number by number
pub write-back-fields : (t : Transfer) (c : ℕ) (x : ChannelState) (h : List ℕ) → h ≡ take (held_limit * c) t.heads ++ (x.bytes ++ drop (held_limit * c + held_limit) t.heads)
    → ◌≡◌ {A = Transfer} (record { len = t.len; pairs = t.pairs; count = x.count; fault = x.fault; on = x.on; heads = h; channels = set t.channels c (channel_of x) }) (write_back t c x)
unfolding write_back
write-back-fields t c x h e = rw e

-- a channel that is not unused counts for one
counted : (k : Channel) → Stage k → one_if_ended k + one_if_active k ≡ cond (eqb k.state 0) 0 1
counted k (resting (inl s) a b d) = rw s
counted k (resting (inr s) a b d) = rw s
counted k (collecting s a b d) = rw s
counted k (storing (inl s) a b) = rw s
counted k (storing (inr s) a b) = rw s

module _ (w : World) (f : Together w) (c : ℕ) (h : c < channel_count) (found : FitReport) (u : found.used ≡ used_of w.t) (e : found.ended ≡ ended_of w.t) where
  abbrev k : Channel
  k = channel_at w.t c

  abbrev ks : List Channel
  ks = w.t.channels

  row : c < length w.t.channels
  row = omega (arith, h, f.channels)

  rest_ended : (x : ChannelState) → ended_of (write_back w.t c x) ≡ cond (eqb k.state 4) (found.ended - 1) found.ended + one_if_ended (channel_of x)
  unfolding ended_of write_back
  rest_ended x = go (ℕ_discrete k.state 4)
    where
      s : sum one_if_ended (set ks c (channel_of x)) + one_if_ended k ≡ sum one_if_ended ks + one_if_ended (channel_of x)
      s = sum-set one_if_ended blank ks c (channel_of x) row

      one : one_if_ended k ≤ sum one_if_ended ks
      one = one_of one_if_ended blank ks c row

      go : Dec (k.state ≡ 4) → sum one_if_ended (set ks c (channel_of x)) ≡ cond (eqb k.state 4) (found.ended - 1) found.ended + one_if_ended (channel_of x)
      go (yes p) = let i : one_if_ended k ≡ 1 = rw p in rw p (omega (arith, e, s, one, i))
      go (no p) = let i : one_if_ended k ≡ 0 = rw (ne_eqb k.state 4 p) in rw (ne_eqb k.state 4 p) (omega (arith, e, s, i))

  rest-used : (x : ChannelState) → used_of (write_back w.t c x) ≡ cond (eqb k.state 0) found.used (found.used - 1) + (one_if_ended (channel_of x) + one_if_active (channel_of x))
  unfolding used_of ended_of write_back
  rest-used x = go (ℕ_discrete k.state 0)
    where
      s : sum one_if_ended (set ks c (channel_of x)) + one_if_ended k ≡ sum one_if_ended ks + one_if_ended (channel_of x)
      s = sum-set one_if_ended blank ks c (channel_of x) row

      a : sum one_if_active (set ks c (channel_of x)) + one_if_active k ≡ sum one_if_active ks + one_if_active (channel_of x)
      a = sum-set one_if_active blank ks c (channel_of x) row

      n : one_if_ended k + one_if_active k ≡ cond (eqb k.state 0) 0 1
      n = counted k (f.stages c h)

      one : one_if_ended k ≤ sum one_if_ended ks
      one = one_of one_if_ended blank ks c row

      two : one_if_active k ≤ sum one_if_active ks
      two = one_of one_if_active blank ks c row

      go : Dec (k.state ≡ 0) → sum one_if_ended (set ks c (channel_of x)) + sum one_if_active (set ks c (channel_of x)) ≡ cond (eqb k.state 0) found.used (found.used - 1) + (one_if_ended (channel_of x) + one_if_active (channel_of x))
      go (yes p) = let m : one_if_ended k + one_if_active k ≡ 0 = n ∙ rw p in rw p (omega (arith, u, s, a, m))
      go (no p) = let m : one_if_ended k + one_if_active k ≡ 1 = n ∙ rw (ne_eqb k.state 0 p) in rw (ne_eqb k.state 0 p) (omega (arith, u, s, a, m, one, two))

  pub counts-others : CountsOthers w.t c (others_of w.t.len found k.state)
  unfolding others_of
  counts-others = record { has = record { below = h; channels = f.channels; heads = f.heads }; len = refl; used = rest-used; ended = rest_ended }
