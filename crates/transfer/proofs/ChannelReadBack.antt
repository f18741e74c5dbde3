-- A channel's state written into the transfer and read out again.
use Prim.Native.Nat.{ℕ, ◌+◌, ◌*◌, ◌-◌, ◌≤◌, ◌<◌}
use mathlib.Core.Path.{◌≡◌, refl, sym, ap, ◌∙◌}
use mathlib.Core.Bool.{true, false}
use mathlib.Core.List.{List, ◌++◌, append_assoc}
use native.Mathlib.Omega.{arith}
use lib.ListN.{length, take, drop, replicate, length-append, length-replicate}
use lib.Seq.{get_or-set_same, set-set, take_at, drop_at, length-take-le}
use Rattle.transfer.specs.declared.state.Transfer.{Transfer}
use Rattle.transfer.specs.Channel.{held_limit, blank, State, unused, header, payload, ended, state_code, held_length, next_place, bytes_left, held_bytes, encode_state, decode_state, state_at, put_state}

-- the transfer has the channel c, and its held bytes
pub record Has (t : Transfer) (c : ℕ) : Type 0 where
  pub row : c < length t.channels
  pub bytes : held_limit * c + held_limit ≤ length t.heads

-- a state that the struct can hold: a header of at most 16 bytes
abbrev pub Stands : State → Type 0
Stands unused = Unit {0}
Stands (header h) = length h ≤ held_limit
Stands (payload p n e) = Unit {0}
Stands ended = Unit {0}

pub length-held_bytes : (x : State) → Stands x → length (held_bytes x) ≡ held_limit
unfolding held_bytes
length-held_bytes unused s = refl
length-held_bytes (header h) s =
    omega (arith, length-append h (replicate (16 - length h) 0), length-replicate {A = ℕ} (16 - length h) 0)
length-held_bytes (payload p n e) s = refl
length-held_bytes ended s = refl

-- the numbers and the bytes of a state mean it
pub read_back : (x : State) (rest : List ℕ) → decode_state (state_code x) (take (held_length x) (held_bytes x ++ rest)) (next_place x) (bytes_left x) ≡ x
unfolding decode_state state_code held_length held_bytes next_place bytes_left
read_back unused rest = refl
read_back (header h) rest =
    ap header (ap (take (length h)) (append_assoc h (replicate (held_limit - length h) 0) rest) ∙ take_at h _ (length h) refl)
read_back (payload p n false) rest = refl
read_back (payload p n true) rest = refl
read_back ended rest = refl

module _ (t : Transfer) (c : ℕ) (a : Has t c) where
  front_length : length (take (held_limit * c) t.heads) ≡ held_limit * c
  front_length = length-take-le (held_limit * c) t.heads (omega (arith, a.bytes))

  pub get-put : (x : State) → state_at (put_state t c x) c ≡ x
  unfolding state_at put_state encode_state
  get-put x =
      rw (
        get_or-set_same t.channels c (encode_state x) blank a.row,
        drop_at (take (held_limit * c) t.heads) (held_bytes x ++ drop (held_limit * c + held_limit) t.heads) (held_limit * c) front_length,
      )
      (read_back x (drop (held_limit * c + held_limit) t.heads))

  pub put-put : (x y : State) → Stands x → put_state (put_state t c x) c y ≡ put_state t c y
  unfolding put_state
  put-put x y s =
      let front = take (held_limit * c) t.heads in
      let back = drop (held_limit * c + held_limit) t.heads in
      let n : length (front ++ held_bytes x) ≡ held_limit * c + held_limit = omega (arith, front_length, length-held_bytes x s, length-append front (held_bytes x)) in
      let f : take (held_limit * c) (front ++ (held_bytes x ++ back)) ≡ front = take_at front (held_bytes x ++ back) (held_limit * c) front_length in
      let b : drop (held_limit * c + held_limit) (front ++ (held_bytes x ++ back)) ≡ back =
      ap (drop (held_limit * c + held_limit)) (sym (append_assoc front (held_bytes x) back)) ∙ drop_at (front ++ held_bytes x) back (held_limit * c + held_limit) n in
      rw (set-set t.channels c (encode_state x) (encode_state y), f, b)
