-- Every byte keeps FIT.
use Prim.Native.Nat.{ℕ, zero, suc, ◌+◌, ◌*◌, ◌≤◌, ◌<◌}
use mathlib.Core.Path.{◌≡◌, refl, ap}
use mathlib.Core.Logic.{inl, inr, ◌≢◌}
use mathlib.Core.Bool.{Bool, true, false, cond, ◌&&◌}
use mathlib.Core.List.{List, [], ◌∷◌, ◌++◌}
use native.Mathlib.Omega.{arith}
use native.Mathlib.Decide.{dec_lt}
use borrow.Author.Tests.{ltb-false, eqb-false, ne_eqb}
use lib.Dec.{ltb, eqb}
use lib.ListN.{length, set, take, drop, length-take, length-append}
use Rattle.ledger.specs.Pairs.{in_range, contains}
use Rattle.ledger.specs.Ledger.{pairs_of}
use Rattle.ledger.proofs.PairsPlaces.{in_range-part}
use Rattle.ledger.proofs.PairsOverlap.{shares-none}
use Rattle.eblock.specs.Header.{second_of, third_of}
use Rattle.transfer.specs.declared.state.Channel.{Channel}
use Rattle.transfer.specs.Channel.{channel_count, held_limit, State, unused, header, payload, ended, next_place, bytes_left, decode_state, state_at, channel_at, put_state, put_fault, put_count}
use Rattle.transfer.specs.Transfer.{sum, used_of, World, world, with_transfer}
use Rattle.transfer.specs.Header.{ends_channel, is_doubtful, payload_length, HeaderRequest, counts, claims, nothing, faulty, request_of, claim_fault}
use Rattle.transfer.specs.Judgement.{HeaderAsks, for_count, for_nothing, for_claim}
use Rattle.transfer.specs.Receive.{continues, not_taken, after_byte, stop_with_fault, expect_payload, claim_range, apply_request, store_payload_byte, take_byte}
use Rattle.transfer.proofs.ChannelBytes.{in_range-nothing}
use Rattle.transfer.proofs.JudgementByTransfer.{Numbered, asked, in-range}
use Rattle.transfer.proofs.Judgement.{claim-numbered, claim-accepted}
use Rattle.transfer.proofs.ReceiveBytes.{byte-unused, byte-held, byte-judged, byte-payload, byte-ended, claim-faulty, claim-opens}
use Rattle.transfer.proofs.FitChannelKinds.{waits, held-within}
use Rattle.transfer.proofs.FitByChannel.{Together, ruled}
use Rattle.transfer.proofs.FitUsed.{used-within}
use Rattle.transfer.proofs.FitStates.{Steady}
use Rattle.transfer.proofs.FitPuts.{Room, put_keeps, fault-keeps, count-keeps, store_keeps, with-holds, claim-keeps}

module _ (c : ℕ) (h : c < channel_count) where
  -- ---- on a channel in use

  abbrev InUse : World → Type 0
  InUse w = 0 < (channel_at w.t c).state

  in-use-room : (w : World) → Together w → InUse w → Room w c
  in-use-room w f u n = omega (arith, ap {B = ℕ} (λ b. cond b 0 1) (ne_eqb (channel_at w.t c).state 0 (λ e. omega arith)), used-within w.t f.count n)

  -- a state without a payload
  clear-keeps : (w : World) → Together w → (x : State) → Steady x → bytes_left x ≡ 0 → Room w c → Together (with_transfer w (put_state w.t c x))
  clear-keeps w f x s e r = put_keeps w f c h x s r (λ p. omega (arith, f.rests p, in_range-nothing (next_place x) (next_place x + bytes_left x) p (omega arith)))

  faults-keep : (w : World) → Together w → InUse w → (k : ℕ) → 11 ≤ k → k ≤ 19 → Together (after_byte (stop_with_fault w c k))
  unfolding stop_with_fault
  faults-keep w f u k a b = fault-keeps (with_transfer w (put_state w.t c (header []))) (clear-keeps w f (header []) (omega arith) (unfold bytes_left in refl) (in-use-room w f u)) c h k a b

  opens-keep : (w : World) → Together w → InUse w → (p n : ℕ) (e : Bool)
      → ((q : ℕ) → sum (waits q) w.t.channels + in_range p (p + n) q ≤ contains q (pairs_of w.lent.claimed) + waits q (channel_at w.t c)) → Together (after_byte (expect_payload w c p n e))
  unfolding expect_payload
  opens-keep w f u p zero true r = clear-keeps w f ended tt (unfold bytes_left in refl) (in-use-room w f u)
  opens-keep w f u p zero false r = clear-keeps w f (header []) (omega arith) (unfold bytes_left in refl) (in-use-room w f u)
  opens-keep w f u p (suc n) e r = put_keeps w f c h (payload p (suc n) e) (omega arith) (in-use-room w f u) (unfold next_place bytes_left in r)

  opens-empty-keeps : (w : World) → Together w → InUse w → (e : Bool) → Together (after_byte (expect_payload w c 0 0 e))
  opens-empty-keeps w f u e = opens-keep w f u 0 0 e (λ q. omega (arith, f.rests q, in_range-nothing 0 (0 + 0) q (omega arith)))

  -- ---- a header's 17th byte

  -- the fault of a range that is asked for
  abbrev judged_as : World → ℕ → ℕ → Bool → ℕ
  judged_as w s e doubt = claim_fault w.t.pairs (pairs_of w.lent.claimed) (pairs_of w.lent.doubtful) s e doubt

  claimed-keeps : (w : World) → Together w → InUse w → (s n : ℕ) (doubt e : Bool) → 0 < n → s + n ≤ w.t.len → judged_as w s (s + n) doubt ≡ 0
      → Together (after_byte (expect_payload (claim_range w s (s + n) doubt) c s n e))
  unfolding claim_range
  claimed-keeps w f u s n doubt e g l z =
      let ok = claim-accepted w.t.pairs (pairs_of w.lent.claimed) (pairs_of w.lent.doubtful) s (s + n) doubt (omega arith) (ruled w.lent.claimed f.rule) (ruled w.lent.doubtful f.doubtful_rule) z in
      opens-keep (claim_range w s (s + n) doubt) (claim-keeps w f s (s + n) (omega arith) ok.1 l doubt ok.2) u s n e
      (λ p. omega (arith, f.rests p, with-holds w.t.pairs w.lent.claimed f.rule s (s + n) (omega arith) ok.1 p, shares-none s (s + n) p (pairs_of w.lent.claimed) ok.0))

  heeds-keep : (w : World) → Together w → InUse w → (r : List ℕ) (a : HeaderRequest) → HeaderAsks w.t.len w.t.count (used_of w.t) r a → Together (after_byte (apply_request w c r a))
  unfolding apply_request
  heeds-keep w f u r (faulty k) a = let n = in-range w.t.len w.t.count (used_of w.t) r (faulty k) a in faults-keep w f u k n.0 (omega (arith, n.1))
  heeds-keep w f u r (counts n) (for_count _ q k₀ n₀ n₁ n₂) =
      opens-empty-keeps (with_transfer w (put_count w.t (third_of r))) (count-keeps w f (third_of r) n₀ n₁ n₂) (unfold put_count in u) (ends_channel r)
  heeds-keep w f u r nothing (for_nothing _ q q₀) = opens-empty-keeps w f u (ends_channel r)
  heeds-keep w f u r (claims s e doubt) (for_claim _ q q₀ q₁) = go (judged_as w (third_of r) (third_of r + second_of r) (is_doubtful r)) refl
    where
      size_is : payload_length r ≡ second_of r
      size_is = unfold payload_length in rw q

      go : (k : ℕ) → judged_as w (third_of r) (third_of r + second_of r) (is_doubtful r) ≡ k
          → Together (after_byte (apply_request w c r (claims (third_of r) (third_of r + second_of r) (is_doubtful r))))
      go (suc k) z =
          rw (claim-faulty w c r (third_of r) (third_of r + second_of r) (is_doubtful r) k z)
          (judged (claim-numbered w.t.pairs (pairs_of w.lent.claimed) (pairs_of w.lent.doubtful) (third_of r) (third_of r + second_of r) (is_doubtful r) (omega arith) (ruled w.lent.claimed f.rule) (ruled w.lent.doubtful f.doubtful_rule)))
        where
          judged : Numbered (judged_as w (third_of r) (third_of r + second_of r) (is_doubtful r)) → Together (after_byte (stop_with_fault w c (suc k)))
          judged (inl y) = absurd (omega arith)
          judged (inr y) = faults-keep w f u (suc k) (omega (arith, y.0)) (omega (arith, y.1))
      go zero z = rw (claim-opens w c r (third_of r) (third_of r + second_of r) (is_doubtful r) z, size_is) (claimed-keeps w f u (third_of r) (second_of r) (is_doubtful r) (ends_channel r) q₀ q₁ z)

  -- ---- a byte

  -- of a header, of which r is held
  held_keeps : (w : World) → Together w → InUse w → (r : List ℕ) (b : ℕ) → state_at w.t c ≡ header r → length r ≤ held_limit → Together (after_byte (take_byte w c b))
  held_keeps w f u r b s l = go (dec_lt (length r) held_limit)
    where
      go : Dec (length r < held_limit) → Together (after_byte (take_byte w c b))
      go (yes y) = rw (byte-held w c b r s y) (clear-keeps w f (header (r ++ (b ∷ []))) (omega (arith, length-append r (b ∷ []))) (unfold bytes_left in refl) (in-use-room w f u))
      go (no y) =
          rw (byte-judged w c b r s (omega arith))
          (heeds-keep w f u (r ++ (b ∷ [])) (request_of w.t.len w.t.count (used_of w.t) (r ++ (b ∷ []))) (asked w.t.len w.t.count (used_of w.t) (r ++ (b ∷ []))))

  first-keeps : (w : World) (b : ℕ) → Together w → state_at w.t c ≡ unused → Together (after_byte (take_byte w c b))
  first-keeps w b f s = rw (byte-unused w c b s) (go (ltb 0 w.t.count) (eqb (used_of w.t) w.t.count) refl refl)
    where
      held : Room w c → Together (with_transfer w (put_state w.t c (header (b ∷ []))))
      held room = clear-keeps w f (header (b ∷ [])) (omega arith) (unfold bytes_left in refl) room

      go : (x y : Bool) → ltb 0 w.t.count ≡ x → eqb (used_of w.t) w.t.count ≡ y
          → Together (after_byte (cond (x && y) (not_taken (with_transfer w (put_fault w.t 19 c))) (continues (with_transfer w (put_state w.t c (header (b ∷ [])))))))
      go true true p q = fault-keeps w f c h 19 (omega arith) (omega arith)
      go true false p q = held (λ n. let d : used_of w.t ≢ w.t.count = eqb-false (used_of w.t) w.t.count q in omega (arith, used-within w.t f.count n))
      go false y p q = held (λ n. absurd (omega (arith, ltb-false 0 w.t.count p)))

  stores-keep : (w : World) (n b : ℕ) (e : Bool) → Together w → InUse w → (channel_at w.t c).left ≡ n → Together (after_byte (store_payload_byte w c (channel_at w.t c).next n e b))
  unfolding store_payload_byte
  stores-keep w zero b e f u l = f
  stores-keep w (suc n) b e f u l =
      let p = (channel_at w.t c).next in
      opens-keep (world w.t (set w.lent.file p b) w.lent.claimed w.lent.doubtful) (store_keeps w f p b) u (suc p) n e
      (λ q. omega (arith, f.rests q, in_range-part (suc p) (suc p + n) p (p + (channel_at w.t c).left) q (omega arith) (omega arith)))

  pub byte_keeps : (w : World) (b : ℕ) → Together w → Together (after_byte (take_byte w c b))
  byte_keeps w b f = go (channel_at w.t c).state refl
    where
      k : Channel
      k = channel_at w.t c

      r : List ℕ
      r = take k.held (drop (held_limit * c) w.t.heads)

      state : (n : ℕ) → k.state ≡ n → state_at w.t c ≡ decode_state n r k.next k.left
      state n e = unfold state_at in ap (λ m. decode_state m r k.next k.left) e

      rest-keeps : (e : Bool) → InUse w → state_at w.t c ≡ payload k.next k.left e → Together (after_byte (take_byte w c b))
      rest-keeps e u s = rw (byte-payload w c b k.next k.left e s) (stores-keep w k.left b e f u refl)

      go : (n : ℕ) → k.state ≡ n → Together (after_byte (take_byte w c b))
      go zero e = first-keeps w b f (unfold decode_state in state 0 e)
      go (suc zero) e =
          held_keeps w f (omega arith) r b (unfold decode_state in state 1 e)
          (omega (arith, length-take k.held (drop (held_limit * c) w.t.heads), held-within k (f.stages c h)))
      go (suc (suc zero)) e = rest-keeps false (omega arith) (unfold decode_state in state 2 e)
      go (suc (suc (suc zero))) e = rest-keeps true (omega arith) (unfold decode_state in state 3 e)
      go (suc (suc (suc (suc n)))) e = rw (byte-ended w c b (unfold decode_state in state (suc (suc (suc (suc n)))) e)) f
