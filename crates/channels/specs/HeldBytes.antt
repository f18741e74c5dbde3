-- The held bytes of a header, of a channel and of its transfer.
use Rattle.std.specs.Prelude.{ℕ, ◌+◌, ◌*◌, List, ◌++◌, length, take, drop, set}
use Rattle.transfer.specs.declared.state.Transfer.{Transfer}
use Rattle.transfer.specs.Channel.{held_limit, channel_at}
use Rattle.channels.specs.declared.channel_state.ChannelState.{ChannelState}

-- the 16 bytes that channel c can hold
abbrev pub held_bytes_at : Transfer → ℕ → List ℕ
held_bytes_at t c = take held_limit (drop (held_limit * c) t.heads)

-- the bytes held after those that are
unfoldable pub with_held_bytes : ChannelState → List ℕ → ChannelState
with_held_bytes x bs =
    record {
      count = x.count;
      fault = x.fault;
      on = x.on;
      state = 1;
      held = x.held + length bs;
      next = 0;
      left = 0;
      bytes = take x.held x.bytes ++ (bs ++ drop (x.held + length bs) x.bytes);
    }

-- the same in the transfer, for channel c
unfoldable pub with_held_bytes_at : Transfer → ℕ → List ℕ → Transfer
with_held_bytes_at t c bs =
    let at = held_limit * c + (channel_at t c).held in
    record {
      len = t.len;
      pairs = t.pairs;
      count = t.count;
      fault = t.fault;
      on = t.on;
      heads = take at t.heads ++ (bs ++ drop (at + length bs) t.heads);
      channels = set t.channels c (record { state = 1; held = (channel_at t c).held + length bs; next = 0; left = 0 });
    }
