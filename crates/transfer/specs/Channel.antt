-- A channel (document 01, "One transfer"): unused, in a header, in a payload, or ended, and how the struct holds that.
use Rattle.std.specs.Prelude.{ℕ, zero, suc, ◌+◌, ◌*◌, ◌-◌, Bool, true, false, List, ◌++◌, length, get_or, take, drop, set, replicate}
use Rattle.transfer.specs.declared.state.Channel.{Channel}
use Rattle.transfer.specs.declared.state.Transfer.{Transfer}

abbrev pub channel_count : ℕ
channel_count = 64

-- the most bytes of a header that a channel holds between calls
abbrev pub held_limit : ℕ
held_limit = 16

pub data State : Type 0 where
  -- no byte taken
  unused : State
  -- the bytes of a header that have come
  header : List ℕ → State
  -- next place, bytes left, and whether the channel ends after them
  payload : ℕ → ℕ → Bool → State
  ended : State

-- ---- as numbers

unfoldable pub state_code : State → ℕ
state_code unused = 0
state_code (header h) = 1
state_code (payload p n false) = 2
state_code (payload p n true) = 3
state_code ended = 4

unfoldable pub held_length : State → ℕ
held_length unused = 0
held_length (header h) = length h
held_length (payload p n e) = 0
held_length ended = 0

unfoldable pub next_place : State → ℕ
next_place unused = 0
next_place (header h) = 0
next_place (payload p n e) = p
next_place ended = 0

unfoldable pub bytes_left : State → ℕ
bytes_left unused = 0
bytes_left (header h) = 0
bytes_left (payload p n e) = n
bytes_left ended = 0

-- the held bytes, and zeros up to 16
unfoldable pub held_bytes : State → List ℕ
held_bytes unused = replicate held_limit 0
held_bytes (header h) = h ++ replicate (held_limit - length h) 0
held_bytes (payload p n e) = replicate held_limit 0
held_bytes ended = replicate held_limit 0

unfoldable pub encode_state : State → Channel
encode_state x = record { state = state_code x; held = held_length x; next = next_place x; left = bytes_left x }

-- what numbers and held bytes mean
unfoldable pub decode_state : ℕ → List ℕ → ℕ → ℕ → State
decode_state zero h p n = unused
decode_state (suc zero) h p n = header h
decode_state (suc (suc zero)) h p n = payload p n false
decode_state (suc (suc (suc zero))) h p n = payload p n true
decode_state (suc (suc (suc (suc s)))) h p n = ended

-- an unused channel's
abbrev pub blank : Channel
blank = record { state = 0; held = 0; next = 0; left = 0 }

-- ---- in the transfer

abbrev pub channel_at : Transfer → ℕ → Channel
channel_at t c = get_or t.channels c blank

unfoldable pub state_at : Transfer → ℕ → State
state_at t c =
    decode_state (channel_at t c).state (take (channel_at t c).held (drop (held_limit * c) t.heads)) (channel_at t c).next (channel_at t c).left

unfoldable pub put_state : Transfer → ℕ → State → Transfer
put_state t c x =
    record {
      len = t.len;
      pairs = t.pairs;
      count = t.count;
      fault = t.fault;
      on = t.on;
      heads = take (held_limit * c) t.heads ++ (held_bytes x ++ drop (held_limit * c + held_limit) t.heads);
      channels = set t.channels c (encode_state x);
    }

unfoldable pub put_fault : Transfer → ℕ → ℕ → Transfer
put_fault t k c =
    record { len = t.len; pairs = t.pairs; count = t.count; fault = k; on = c; heads = t.heads; channels = t.channels }

unfoldable pub put_count : Transfer → ℕ → Transfer
put_count t n =
    record { len = t.len; pairs = t.pairs; count = n; fault = t.fault; on = t.on; heads = t.heads; channels = t.channels }
