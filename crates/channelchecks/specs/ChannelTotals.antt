-- One pass over the channels: what it counts and keeps.
use Rattle.std.specs.Prelude.{◌+◌, ◌≤◌, ◌≡◌, Bool, true, false, cond, Option, MatchOption, eqb, length, take, set}
use Rattle.transfer.specs.declared.state.Channel.{Channel}
use Rattle.transfer.specs.declared.state.Transfer.{Transfer}
use Rattle.transfer.specs.Channel.{channel_count}
use Rattle.transfer.specs.Transfer.{one_if_ended, ended_of, used_of}
use Rattle.channelchecks.specs.declared.totals.ChannelTotals.{ChannelTotals}
use Rattle.channelchecks.specs.Payloads.{rest_of, rests_of}

-- one channel more; the rest of a used one is set after those that are kept
abbrev pub with_channel : ChannelTotals → Channel → ChannelTotals
with_channel p k =
    cond (eqb k.state 0) p
    (record {
      rests = set p.rests p.payloads (rest_of k);
      payloads = p.payloads + cond (eqb k.left 0) 0 1;
      used = p.used + 1;
      ended = p.ended + one_if_ended k;
    })

-- p counts all channels
pub record Totals (t : Transfer) (p : ChannelTotals) : Type 0 where
  pub rests_all : take p.payloads p.rests ≡ rests_of t.channels
  pub used_all : p.used ≡ used_of t
  pub ended_all : p.ended ≡ ended_of t
  pub few : p.payloads ≤ channel_count
  pub rests_length : length p.rests ≡ channel_count

-- the pass over all channels, which fit or not, answers so
abbrev pub TotalsAre : Bool → Transfer → Option ChannelTotals → Type 0
TotalsAre fit t answer = MatchOption answer (fit ≡ false) (λ p. (fit ≡ true) × Totals t p)
