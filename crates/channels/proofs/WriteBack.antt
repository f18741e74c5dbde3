-- The channel of a call written back into its transfer: what is read of it there, and what a change of it is there.
use Prim.Native.Nat.{ℕ, ◌+◌, ◌*◌, ◌≤◌}
use mathlib.Core.Path.{◌≡◌, refl, sym, ap, ◌∙◌}
use mathlib.Core.Bool.{Bool, true, false, cond}
use mathlib.Core.List.{List, [], ◌++◌, append_assoc}
use native.Mathlib.Omega.{arith}
use lib.Dec.{ltb}
use lib.ListN.{length, take, drop, length-append}
use lib.Seq.{get_or-set_same, set-set, take_at, drop_at, take-append-add, take-append-le, drop-append-add, drop-append-le, length-take-le}
use Rattle.ledger.specs.Ledger.{has_pair}
use Rattle.transfer.specs.declared.state.Transfer.{Transfer}
use Rattle.transfer.specs.Channel.{held_limit, State, header, payload, ended, state_code, held_length, next_place, bytes_left, held_bytes, encode_state, blank, channel_at, put_state, put_fault}
use Rattle.transfer.specs.Transfer.{one_if_ended, one_if_active, used_of, world, guess, result, suspect, broken, all_ended, is_doubted, verdict_of}
use Rattle.transfer.specs.Header.{request_of}
use Rattle.channels.specs.declared.channel_state.ChannelState.{ChannelState}
use Rattle.channels.specs.declared.other_channels.OtherChannels.{OtherChannels}
use Rattle.channels.specs.ChannelState.{channel_of, HasChannel, write_back, with_state, cleared_with_fault}
use Rattle.channels.specs.HeldBytes.{with_held_bytes_at, held_bytes_at, with_held_bytes}
use Rattle.channels.specs.OtherChannels.{CountsOthers}
use Rattle.verdicts.specs.Verdict.{count_reached}

-- ---- 16 bytes between those before and those after

module _ (h b : List ℕ) (at : ℕ) (f : at + held_limit ≤ length h) (n : length b ≡ held_limit) where
  abbrev spliced : List ℕ
  spliced = take at h ++ (b ++ drop (at + held_limit) h)

  front : length (take at h) ≡ at
  front = length-take-le at h (omega arith)

  before : take at spliced ≡ take at h
  before = take_at (take at h) (b ++ drop (at + held_limit) h) at front

  after : drop (at + held_limit) spliced ≡ drop (at + held_limit) h
  after =
      ap (drop (at + held_limit)) (sym (append_assoc (take at h) b (drop (at + held_limit) h)))
      ∙ drop_at (take at h ++ b) (drop (at + held_limit) h) (at + held_limit) (omega (arith, front, length-append (take at h) b))

  between : take held_limit (drop at spliced) ≡ b
  between = ap (take held_limit) (drop_at (take at h) (b ++ drop (at + held_limit) h) at front) ∙ take_at b (drop (at + held_limit) h) held_limit n

  -- bytes written among the 16
  among : (i : ℕ) (bs : List ℕ) → i + length bs ≤ held_limit
      → take (at + i) spliced ++ (bs ++ drop (at + i + length bs) spliced) ≡ take at h ++ ((take i b ++ (bs ++ drop (i + length bs) b)) ++ drop (at + held_limit) h)
  among i bs l =
      let g = drop (at + held_limit) h in
      let p = take at h in
      let s : take (at + i) spliced ≡ p ++ take i b =
      ap (λ m. take (m + i) spliced) (sym front) ∙ take-append-add p (b ++ g) i ∙ ap (λ x. p ++ x) (take-append-le i b g (omega arith)) in
      let e : at + i + length bs ≡ at + (i + length bs) = omega arith in
      let d : drop (at + i + length bs) spliced ≡ drop (i + length bs) b ++ g =
      ap (λ m. drop m spliced) e ∙ ap (λ m. drop (m + (i + length bs)) spliced) (sym front) ∙ drop-append-add p (b ++ g) (i + length bs) ∙ drop-append-le (i + length bs) b g (omega arith) in
      rw (s, d)
      (append_assoc p (take i b) (bs ++ (drop (i + length bs) b ++ g))
      ∙ ap (λ x. p ++ x) (ap (λ x. take i b ++ x) (sym (append_assoc bs (drop (i + length bs) b) g)) ∙ sym (append_assoc (take i b) (bs ++ drop (i + length bs) b) g)))

pub with-held-bytes-state : (x : ChannelState) (bs : List ℕ) → (with_held_bytes x bs).state ≡ 1
unfolding with_held_bytes
with-held-bytes-state x bs = refl

-- ---- in its transfer

module _ (t : Transfer) (c : ℕ) (a : HasChannel t c) where
  room : held_limit * c + held_limit ≤ length t.heads
  room = omega (arith, a.below, a.heads)

  pub write-back-at : (x : ChannelState) → channel_at (write_back t c x) c ≡ channel_of x
  unfolding write_back
  write-back-at x = get_or-set_same t.channels c (channel_of x) blank (omega (arith, a.below, a.channels))

  pub write-back-bytes : (x : ChannelState) → length x.bytes ≡ held_limit → held_bytes_at (write_back t c x) c ≡ x.bytes
  unfolding write_back
  write-back-bytes x n = between t.heads x.bytes (held_limit * c) room n

  -- a state written over the channel
  pub write-back-puts : (x y : ChannelState) (s : State) → length x.bytes ≡ held_limit → y.count ≡ x.count → y.fault ≡ x.fault → y.on ≡ x.on
      → channel_of y ≡ encode_state s → y.bytes ≡ held_bytes s → write_back t c y ≡ put_state (write_back t c x) c s
  unfolding write_back put_state
  write-back-puts x y s n q f i k b =
      rw (q, f, i, k, b, before t.heads x.bytes (held_limit * c) room n, after t.heads x.bytes (held_limit * c) room n, set-set t.channels c (channel_of x) (encode_state s))

  module _ (x : ChannelState) (n : length x.bytes ≡ held_limit) where
    pub write-back-header : write_back t c (with_state x 1 0 0) ≡ put_state (write_back t c x) c (header [])
    unfolding with_state encode_state state_code held_length next_place bytes_left held_bytes
    write-back-header = write-back-puts x (with_state x 1 0 0) (header []) n refl refl refl refl refl

    pub write-back-payload : (p m : ℕ) (last : Bool) → write_back t c (with_state x (cond last 3 2) p m) ≡ put_state (write_back t c x) c (payload p m last)
    unfolding with_state encode_state state_code held_length next_place bytes_left held_bytes
    write-back-payload p m false = write-back-puts x (with_state x 2 p m) (payload p m false) n refl refl refl refl refl
    write-back-payload p m true = write-back-puts x (with_state x 3 p m) (payload p m true) n refl refl refl refl refl

    pub write-back-ended : write_back t c (with_state x 4 0 0) ≡ put_state (write_back t c x) c ended
    unfolding with_state encode_state state_code held_length next_place bytes_left held_bytes
    write-back-ended = write-back-puts x (with_state x 4 0 0) ended n refl refl refl refl refl

    pub write-back-fault : (k : ℕ) → write_back t c (cleared_with_fault x c k) ≡ put_fault (put_state (write_back t c x) c (header [])) k c
    write-back-fault k = faulted-is ∙ ap (λ (u : Transfer). put_fault u k c) write-back-header
      where
        faulted-is : write_back t c (cleared_with_fault x c k) ≡ put_fault (write_back t c (with_state x 1 0 0)) k c
        faulted-is = unfold write_back in unfold cleared_with_fault in unfold with_state in unfold put_fault in refl

    pub write-back-held-bytes : (bs : List ℕ) → x.held + length bs ≤ held_limit → write_back t c (with_held_bytes x bs) ≡ with_held_bytes_at (write_back t c x) c bs
    unfolding write_back with_held_bytes with_held_bytes_at
    write-back-held-bytes bs l =
        rw (get_or-set_same t.channels c (channel_of x) blank (omega (arith, a.below, a.channels)), among t.heads x.bytes (held_limit * c) room n x.held bs l, set-set t.channels c (channel_of x) _)

pub write-back-pairs : (t : Transfer) (c : ℕ) (x : ChannelState) → (write_back t c x).pairs ≡ t.pairs
unfolding write_back
write-back-pairs t c x = refl

pub write-back-len : (t : Transfer) (c : ℕ) (x : ChannelState) → (write_back t c x).len ≡ t.len
unfolding write_back
write-back-len t c x = refl

-- ---- counts

module _ (t : Transfer) (c : ℕ) (o : OtherChannels) (a : CountsOthers t c o) where
  -- the verdict by the count of the others that have ended
  pub write-back-verdict : (x : ChannelState) (file claimed doubtful : List ℕ)
      → verdict_of (world (write_back t c x) file claimed doubtful) ≡ cond (ltb 0 x.fault) broken (cond (count_reached x.count (o.ended + one_if_ended (channel_of x))) (cond (has_pair doubtful) suspect result) guess)
  unfolding verdict_of all_ended is_doubted
  write-back-verdict x file claimed doubtful = rw (a.ended x) (unfold write_back in refl)

  pub write-back-used : (x : ChannelState) → x.state ≡ 1 → used_of (write_back t c x) ≡ o.used + 1
  write-back-used x s = let z : one_if_ended (channel_of x) + one_if_active (channel_of x) ≡ 1 = rw s in omega (arith, a.used x, z)

  pub write-back-unused : (x : ChannelState) → x.state ≡ 0 → used_of (write_back t c x) ≡ o.used
  write-back-unused x s = let z : one_if_ended (channel_of x) + one_if_active (channel_of x) ≡ 0 = rw s in omega (arith, a.used x, z)

  pub write-back-count-reached : (x : ChannelState) → x.state ≡ 0 → count_reached (write_back t c x).count (used_of (write_back t c x)) ≡ count_reached x.count o.used
  write-back-count-reached x s = rw (write-back-unused x s) (unfold write_back in refl)

  -- what a header asks for, by the numbers that the code has
  pub write-back-asked : (x : ChannelState) (h : List ℕ) → x.state ≡ 1 → request_of o.len x.count (o.used + 1) h ≡ request_of (write_back t c x).len (write_back t c x).count (used_of (write_back t c x)) h
  write-back-asked x h s = rw (write-back-used x s) (unfold write_back in rw a.len)
