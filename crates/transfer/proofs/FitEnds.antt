-- A byte moves the number of ended channels by its own channel alone, and ends it only where fewer than n have ended.
use Prim.Native.Nat.{ℕ, zero, suc, ◌+◌, ◌*◌, ◌≤◌, ◌<◌}
use mathlib.Core.Path.{◌≡◌, refl, sym, ap, ◌∙◌}
use mathlib.Core.Bool.{Bool, true, false, cond, ◌&&◌}
use mathlib.Core.List.{List, [], ◌∷◌, ◌++◌}
use native.Mathlib.Omega.{arith}
use lib.Dec.{ltb, eqb}
use lib.ListN.{length, set, take, drop}
use lib.Seq.{get_or-set_same}
use Rattle.ledger.specs.Ledger.{pairs_of}
use Rattle.transfer.specs.declared.state.Transfer.{Transfer}
use Rattle.transfer.specs.Channel.{channel_count, held_limit, blank, State, unused, header, payload, ended, encode_state, decode_state, channel_at, state_at, put_state, put_fault, put_count}
use Rattle.transfer.specs.Transfer.{one_if_ended, ended_of, used_of, World, world, with_transfer}
use Rattle.transfer.specs.Header.{ends_channel, payload_length, HeaderRequest, counts, claims, nothing, faulty, request_of, claim_fault}
use Rattle.transfer.specs.Receive.{Outcome, continues, not_taken, after_byte, stop_with_fault, expect_payload, claim_range, apply_request, apply_header, take_header_byte, store_payload_byte, take_byte_in, take_byte, is_ended}
use Rattle.transfer.specs.Tally.{one_if}
use Rattle.transfer.specs.Fitting.{EndsBelowCount}
use Rattle.transfer.proofs.Sums.{sum-set}
use Rattle.transfer.proofs.Rows.{not-ended}
use Rattle.transfer.proofs.FitChannelKinds.{state-known}
use Rattle.transfer.proofs.FitByChannel.{Together}
use Rattle.transfer.proofs.FitUsed.{by_state, used-within}
use Rattle.transfer.proofs.FitKept.{byte_keeps}

-- ---- one channel

one_ended : (t : Transfer) (c : ℕ) → (channel_at t c).state ≤ 4 → one_if (is_ended (state_at t c)) ≡ one_if_ended (channel_at t c)
unfolding state_at decode_state
one_ended t c h =
    let held : List ℕ = take (channel_at t c).held (drop (held_limit * c) t.heads) in
    by_state (λ n. one_if (is_ended (decode_state n held (channel_at t c).next (channel_at t c).left)) ≡ cond (eqb n 4) 1 0) refl refl refl refl refl (channel_at t c).state h

-- ---- the number of ended channels, from w on

module _ (w : World) (c : ℕ) (h : c < length w.t.channels) where
  -- it has moved as the channel c has
  abbrev Moved : Transfer → Type 0
  Moved t = ended_of t + one_if_ended (channel_at w.t c) ≡ ended_of w.t + one_if_ended (channel_at t c)

  abbrev Moves : Outcome World → Type 0
  Moves x = Moved (after_byte x).t

  -- the channels of v are those of w
  abbrev Same : World → Type 0
  Same v = v.t.channels ≡ w.t.channels

  either : (b : Bool) (x y : Outcome World) → Moves x → Moves y → Moves (cond b x y)
  either true x y m n = m
  either false x y m n = n

  put-moves : (v : World) → Same v → (x : State) → Moved (put_state v.t c x)
  unfolding put_state ended_of
  put-moves v s x =
      rw s
      (omega (arith, sum-set one_if_ended blank w.t.channels c (encode_state x) h, ap one_if_ended (get_or-set_same w.t.channels c (encode_state x) blank h)))

  fault-moves : (v : World) → Same v → (k : ℕ) → Moves (stop_with_fault v c k)
  unfolding stop_with_fault put_fault ended_of
  fault-moves v s k = put-moves v s (header [])

  payload-moves : (v : World) → Same v → (p n : ℕ) (e : Bool) → Moves (expect_payload v c p n e)
  unfolding expect_payload
  payload-moves v s p zero true = put-moves v s ended
  payload-moves v s p zero false = put-moves v s (header [])
  payload-moves v s p (suc n) e = put-moves v s (payload p (suc n) e)

  request-moves : (r : List ℕ) (a : HeaderRequest) → Moves (apply_request w c r a)
  unfolding apply_request
  request-moves r (faulty k) = fault-moves w refl k
  request-moves r (counts n) = payload-moves (with_transfer w (put_count w.t n)) (unfold put_count in refl) 0 0 (ends_channel r)
  request-moves r nothing = payload-moves w refl 0 0 (ends_channel r)
  request-moves r (claims s e doubt) =
      let k = claim_fault w.t.pairs (pairs_of w.lent.claimed) (pairs_of w.lent.doubtful) s e doubt in
      either (ltb 0 k) (stop_with_fault w c k) (expect_payload (claim_range w s e doubt) c s (payload_length r) (ends_channel r)) (fault-moves w refl k)
      (payload-moves (claim_range w s e doubt) (unfold claim_range in refl) s (payload_length r) (ends_channel r))

  header-moves : (r : List ℕ) (b : ℕ) → Moves (take_header_byte w c r b)
  unfolding take_header_byte apply_header
  header-moves r b =
      either (ltb (length r) held_limit) (continues (with_transfer w (put_state w.t c (header (r ++ (b ∷ [])))))) (apply_header w c (r ++ (b ∷ [])))
      (put-moves w refl (header (r ++ (b ∷ [])))) (request-moves (r ++ (b ∷ [])) (request_of w.t.len w.t.count (used_of w.t) (r ++ (b ∷ []))))

  state-moves : (x : State) (b : ℕ) → Moves (take_byte_in x w c b)
  unfolding take_byte_in store_payload_byte
  state-moves unused b =
      either (ltb 0 w.t.count && eqb (used_of w.t) w.t.count) (not_taken (with_transfer w (put_fault w.t 19 c))) (take_header_byte w c [] b)
      (unfold put_fault ended_of in refl) (header-moves [] b)
  state-moves (header r) b = header-moves r b
  state-moves (payload p zero e) b = refl
  state-moves (payload p (suc n) e) b = payload-moves (world w.t (set w.lent.file p b) w.lent.claimed w.lent.doubtful) refl (suc p) n e
  state-moves ended b = refl

  byte-moves : (b : ℕ) → Moves (take_byte w c b)
  unfolding take_byte
  byte-moves b = state-moves (state_at w.t c) b

-- FIT after the byte says that no more than n are used then, and one more has ended than before
pub byte_ends : (w : World) (c b : ℕ) → Together w → c < channel_count → EndsBelowCount w (after_byte (take_byte w c b)) c
byte_ends w c b f h a e n = unfold used_of in omega (arith, used-within v.t after.count n, byte-moves w c (omega (arith, f.channels, h)) b, none_before, one-after)
  where
    v : World
    v = after_byte (take_byte w c b)

    after : Together v
    after = byte_keeps c h w b f

    none_before : one_if_ended (channel_at w.t c) ≡ 0
    none_before = sym (one_ended w.t c (state-known (channel_at w.t c) (f.stages c h))) ∙ ap one_if (not-ended (state_at w.t c) a)

    one-after : one_if_ended (channel_at v.t c) ≡ 1
    one-after = sym (one_ended v.t c (state-known (channel_at v.t c) (after.stages c h))) ∙ ap (λ x. one_if (is_ended x)) e
