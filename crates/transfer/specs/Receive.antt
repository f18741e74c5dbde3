-- Receive (document 01, "One transfer"; document 02, Item 3): a call is its piece's bytes taken one after the other.
use Rattle.std.specs.Prelude.{ℕ, zero, suc, Bool, true, false, cond, ◌&&◌, not, List, [], ◌∷◌, ◌++◌, leb, ltb, eqb, length, set}
use Rattle.ledger.specs.Pairs.{join}
use Rattle.ledger.specs.Ledger.{pairs_of, laid_out}
use Rattle.transfer.specs.Channel.{channel_count, held_limit, State, unused, header, payload, ended, state_at, put_state, put_fault, put_count}
use Rattle.transfer.specs.Transfer.{used_of, World, world, with_transfer, Verdict, guess, result, suspect, broken, verdict_of}
use Rattle.transfer.specs.Header.{ends_channel, payload_length, HeaderRequest, counts, claims, nothing, faulty, request_of, claim_fault}
use Rattle.transfer.specs.Fit.{fits}

-- what a byte led to: taken, and the call goes on; taken, and it stops; not taken, and it stops
pub data Outcome {ℓ} (W : Type ℓ) : Type ℓ where
  continues : W → Outcome W
  stops : W → Outcome W
  not_taken : W → Outcome W

abbrev pub after_byte {ℓ} : {W : Type ℓ} → Outcome W → W
after_byte (continues w) = w
after_byte (stops w) = w
after_byte (not_taken w) = w

-- ---- a fault, and the beginning of a payload

-- a fault stops the call and leaves the channel in a header of which nothing is held; file, ledgers, count and the other channels stay
unfoldable pub stop_with_fault : World → ℕ → ℕ → Outcome World
stop_with_fault w c k = stops (with_transfer w (put_fault (put_state w.t c (header [])) k c))

-- n payload bytes from the place p are to come, after which the channel ends or not; a channel's end stops the call
unfoldable pub expect_payload : World → ℕ → ℕ → ℕ → Bool → Outcome World
expect_payload w c p zero true = stops (with_transfer w (put_state w.t c ended))
expect_payload w c p zero false = continues (with_transfer w (put_state w.t c (header [])))
expect_payload w c p (suc n) e = continues (with_transfer w (put_state w.t c (payload p (suc n) e)))

-- ---- a header's 17th byte

-- a ledger of R pairs with the range from s to e
unfoldable pub with_range : ℕ → ℕ → ℕ → List ℕ → List ℕ
with_range R s e ledger = laid_out R (join s e (pairs_of ledger))

-- the range is claimed, and in both ledgers where it is doubtful
unfoldable pub claim_range : World → ℕ → ℕ → Bool → World
claim_range w s e doubt =
    world w.t w.lent.file (with_range w.t.pairs s e w.lent.claimed) (cond doubt (with_range w.t.pairs s e w.lent.doubtful) w.lent.doubtful)

unfoldable pub apply_request : World → ℕ → List ℕ → HeaderRequest → Outcome World
apply_request w c h (faulty k) = stop_with_fault w c k
apply_request w c h (counts n) = expect_payload (with_transfer w (put_count w.t n)) c 0 0 (ends_channel h)
apply_request w c h nothing = expect_payload w c 0 0 (ends_channel h)
apply_request w c h (claims s e doubt) =
    let k = claim_fault w.t.pairs (pairs_of w.lent.claimed) (pairs_of w.lent.doubtful) s e doubt in
    cond (ltb 0 k) (stop_with_fault w c k) (expect_payload (claim_range w s e doubt) c s (payload_length h) (ends_channel h))

unfoldable pub apply_header : World → ℕ → List ℕ → Outcome World
apply_header w c h = apply_request w c h (request_of w.t.len w.t.count (used_of w.t) h)

-- ---- a byte

-- of a header, of which h is held
unfoldable pub take_header_byte : World → ℕ → List ℕ → ℕ → Outcome World
take_header_byte w c h b =
    cond (ltb (length h) held_limit) (continues (with_transfer w (put_state w.t c (header (h ++ (b ∷ [])))))) (apply_header w c (h ++ (b ∷ [])))

-- of a payload: p the next place, n bytes left
unfoldable pub store_payload_byte : World → ℕ → ℕ → ℕ → Bool → ℕ → Outcome World
store_payload_byte w c p zero e b = not_taken w
store_payload_byte w c p (suc n) e b = expect_payload (world w.t (set w.lent.file p b) w.lent.claimed w.lent.doubtful) c (suc p) n e

-- the first byte of an unused channel is not taken while n is known and used is n: fault 19
unfoldable pub take_byte_in : State → World → ℕ → ℕ → Outcome World
take_byte_in unused w c b =
    cond (ltb 0 w.t.count && eqb (used_of w.t) w.t.count) (not_taken (with_transfer w (put_fault w.t 19 c))) (take_header_byte w c [] b)
take_byte_in (header h) w c b = take_header_byte w c h b
take_byte_in (payload p n e) w c b = store_payload_byte w c p n e b
take_byte_in ended w c b = not_taken w

unfoldable pub take_byte : World → ℕ → ℕ → Outcome World
take_byte w c b = take_byte_in (state_at w.t c) w c b

-- ---- a call

pub data Answer : Type 0 where
  refused : ℕ → Answer
  took : ℕ → Answer

-- the bytes of a piece, one after the other; k have been taken before
unfoldable pub take_bytes {ℓ} : {W : Type ℓ} → (W → ℕ → Outcome W) → W → List ℕ → ℕ → Answer × W
take_bytes f w [] k = (took k, w)
take_bytes f w (b ∷ bs) k = elim (f w b) [ continues v ↦ take_bytes f v bs (suc k) | stops v ↦ (took (suc k), v) | not_taken v ↦ (took k, v) ]

abbrev pub is_guess : Verdict → Bool
is_guess guess = true
is_guess result = false
is_guess suspect = false
is_guess broken = false

abbrev pub is_ended : State → Bool
is_ended unused = false
is_ended (header h) = false
is_ended (payload p n e) = false
is_ended ended = true

abbrev pub is_non_empty : List ℕ → Bool
is_non_empty [] = false
is_non_empty (b ∷ bs) = true

-- 1, 2, 3, 4 in this order; 0 where the call is not refused
unfoldable pub refusal_of : World → ℕ → List ℕ → ℕ
refusal_of w c piece =
    cond (not (fits w)) 1
    (cond (leb channel_count c) 2
    (cond (not (is_guess (verdict_of w))) 3
    (cond (is_non_empty piece && is_ended (state_at w.t c)) 4 0)))

unfoldable pub receive_of : World → ℕ → List ℕ → Answer × World
receive_of w c piece =
    let go = take_bytes (λ v b. take_byte v c b) w piece 0 in
    cond (ltb 0 (refusal_of w c piece)) (refused (refusal_of w c piece), w) go
