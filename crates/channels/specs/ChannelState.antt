-- The channel of a call, apart from its transfer and written back into it.
use Rattle.std.specs.Prelude.{ℕ, ◌+◌, ◌*◌, ◌<◌, ◌≡◌, List, ◌++◌, length, take, drop, set, replicate}
use Rattle.transfer.specs.declared.state.Channel.{Channel}
use Rattle.transfer.specs.declared.state.Transfer.{Transfer}
use Rattle.transfer.specs.Channel.{channel_count, held_limit}
use Rattle.channels.specs.declared.channel_state.ChannelState.{ChannelState}

abbrev pub channel_of : ChannelState → Channel
channel_of x = record { state = x.state; held = x.held; next = x.next; left = x.left }

-- channel c, with its numbers k, of a transfer with that count, fault and held bytes
unfoldable pub channel_state_of : ℕ → ℕ → ℕ → Channel → List ℕ → ℕ → ChannelState
channel_state_of count fault on k heads c =
    record {
      count = count;
      fault = fault;
      on = on;
      state = k.state;
      held = k.held;
      next = k.next;
      left = k.left;
      bytes = take held_limit (drop (held_limit * c) heads);
    }

-- t has all channels with their held bytes, and c is one of them
pub record HasChannel (t : Transfer) (c : ℕ) : Type 0 where
  pub below : c < channel_count
  pub channels : length t.channels ≡ channel_count
  pub heads : length t.heads ≡ held_limit * channel_count

unfoldable pub write_back : Transfer → ℕ → ChannelState → Transfer
write_back t c x =
    record {
      len = t.len;
      pairs = t.pairs;
      count = x.count;
      fault = x.fault;
      on = x.on;
      heads = take (held_limit * c) t.heads ++ (x.bytes ++ drop (held_limit * c + held_limit) t.heads);
      channels = set t.channels c (channel_of x);
    }

-- ---- what a call leaves of the channel

-- in a state of which no header byte is held
unfoldable pub with_state : ChannelState → ℕ → ℕ → ℕ → ChannelState
with_state x s p n =
    record { count = x.count; fault = x.fault; on = x.on; state = s; held = 0; next = p; left = n; bytes = replicate held_limit 0 }

unfoldable pub cleared_with_fault : ChannelState → ℕ → ℕ → ChannelState
cleared_with_fault x c k = record { count = x.count; fault = k; on = c; state = 1; held = 0; next = 0; left = 0; bytes = replicate held_limit 0 }
