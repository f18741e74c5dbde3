-- The rest of the transfer: the counts of the other channels.
use Rattle.std.specs.Prelude.{ℕ, ◌+◌, ◌-◌, ◌≡◌, cond, eqb}
use Rattle.channelchecks.specs.declared.report.FitReport.{FitReport}
use Rattle.transfer.specs.declared.state.Transfer.{Transfer}
use Rattle.transfer.specs.Transfer.{one_if_ended, one_if_active, ended_of, used_of}
use Rattle.channels.specs.declared.channel_state.ChannelState.{ChannelState}
use Rattle.channels.specs.declared.other_channels.OtherChannels.{OtherChannels}
use Rattle.channels.specs.ChannelState.{channel_of, HasChannel, write_back}

-- the counts of all channels, less one in that state
unfoldable pub others_of : ℕ → FitReport → ℕ → OtherChannels
others_of len found s =
    record { len = len; used = cond (eqb s 0) found.used (found.used - 1); ended = cond (eqb s 4) (found.ended - 1) found.ended }

-- o are the file's length and the counts of the channels of t other than c, whatever state c is in
pub record CountsOthers (t : Transfer) (c : ℕ) (o : OtherChannels) : Type 0 where
  pub has : HasChannel t c
  pub len : t.len ≡ o.len
  pub used : (x : ChannelState) → used_of (write_back t c x) ≡ o.used + (one_if_ended (channel_of x) + one_if_active (channel_of x))
  pub ended : (x : ChannelState) → ended_of (write_back t c x) ≡ o.ended + one_if_ended (channel_of x)
