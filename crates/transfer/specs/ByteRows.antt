-- What one byte leads to, in any world, by the state of its channel (document 01, "One transfer"; document 02, Item 3). 19 is in Rows.
use Rattle.std.specs.Prelude.{ℕ, suc, ◌<◌, ◌≡◌, ◌⊎◌, ◌≢◌, Bool, true, false, List, [], ◌∷◌, ◌++◌, length, set}
use Rattle.ledger.specs.Pairs.{Pairs, ObeyFrom}
use Rattle.ledger.specs.Ledger.{pairs_of, laid_out}
use Rattle.eblock.specs.Header.{second_of}
use Rattle.transfer.specs.declared.state.Transfer.{Transfer}
use Rattle.transfer.specs.Channel.{unused, header, payload, ended, state_at, put_state, put_fault, put_count}
use Rattle.transfer.specs.Transfer.{used_of, World, world, with_transfer}
use Rattle.transfer.specs.Header.{ends_channel, HeaderRequest, counts, claims, nothing, faulty}
use Rattle.transfer.specs.Judgement.{HeaderAsks, Union, ClaimJudged}
use Rattle.transfer.specs.Fit.{fits}
use Rattle.transfer.specs.Receive.{continues, stops, not_taken, take_byte}

-- the channel c is in a header of which 16 bytes are held; with b it is whole and asks for a
pub record Seventeenth (w : World) (c b : ℕ) (h : List ℕ) (a : HeaderRequest) : Type 0 where
  pub in_header : state_at w.t c ≡ header h
  pub sixteen : length h ≡ 16
  pub asks : HeaderAsks w.t.len w.t.count (used_of w.t) (h ++ (b ∷ [])) a

-- both ledgers obey their rule
abbrev pub BothRuled : World → Type 0
BothRuled w = ObeyFrom 0 (pairs_of w.lent.claimed) × ObeyFrom 0 (pairs_of w.lent.doubtful)

-- the range is judged k by them
abbrev pub Judged : World → ℕ → ℕ → Bool → ℕ → Type 0
Judged w s e doubt k = ClaimJudged w.t.pairs (pairs_of w.lent.claimed) (pairs_of w.lent.doubtful) s e doubt k

-- the payload of the header h begins on the channel c at the place s
abbrev pub begun : World → ℕ → ℕ → List ℕ → Transfer
begun w c s h = put_state w.t c (payload s (second_of h) (ends_channel h))

pub record ByteRows : Type 0 where
  -- the first byte of an unused channel, where it does not give 19
  pub first_held : (w : World) (c b : ℕ) → state_at w.t c ≡ unused → (w.t.count ≡ 0) ⊎ (used_of w.t ≢ w.t.count)
      → take_byte w c b ≡ continues (with_transfer w (put_state w.t c (header (b ∷ []))))
  -- a header's next byte, up to the 16th
  pub next_held : (w : World) (c b : ℕ) (h : List ℕ) → state_at w.t c ≡ header h → length h < 16
      → take_byte w c b ≡ continues (with_transfer w (put_state w.t c (header (h ++ (b ∷ [])))))
  -- a 17th byte: a fault clears what is held, and the call stops
  pub header_fault_is : (w : World) (c b k : ℕ) (h : List ℕ) → Seventeenth w c b h (faulty k)
      → take_byte w c b ≡ stops (with_transfer w (put_fault (put_state w.t c (header [])) k c))
  -- a count; with bit 8 the channel ends
  pub count_continues : (w : World) (c b n : ℕ) (h : List ℕ) → Seventeenth w c b h (counts n) → ends_channel (h ++ (b ∷ [])) ≡ false
      → take_byte w c b ≡ continues (with_transfer w (put_state (put_count w.t n) c (header [])))
  pub count_ends : (w : World) (c b n : ℕ) (h : List ℕ) → Seventeenth w c b h (counts n) → ends_channel (h ++ (b ∷ [])) ≡ true
      → take_byte w c b ≡ stops (with_transfer w (put_state (put_count w.t n) c ended))
  -- an empty payload; with bit 8 the channel ends
  pub empty_continues : (w : World) (c b : ℕ) (h : List ℕ) → Seventeenth w c b h nothing → ends_channel (h ++ (b ∷ [])) ≡ false
      → take_byte w c b ≡ continues (with_transfer w (put_state w.t c (header [])))
  pub empty_ends : (w : World) (c b : ℕ) (h : List ℕ) → Seventeenth w c b h nothing → ends_channel (h ++ (b ∷ [])) ≡ true
      → take_byte w c b ≡ stops (with_transfer w (put_state w.t c ended))
  -- the ledgers of what fits obey their rule
  pub both_ruled : (w : World) → fits w ≡ true → BothRuled w
  -- a range: 17 or 18, with nothing claimed
  pub claim_fault_is : (w : World) (c b k s e : ℕ) (doubt : Bool) (h : List ℕ) → Seventeenth w c b h (claims s e doubt) → BothRuled w → Judged w s e doubt k → 0 < k
      → take_byte w c b ≡ stops (with_transfer w (put_fault (put_state w.t c (header [])) k c))
  -- or it is claimed and its bytes are to come: without bit 32 in the claimed ledger, with bit 32 in both
  pub claimed : (w : World) (c b s e : ℕ) (h : List ℕ) (m : Pairs) → Seventeenth w c b h (claims s e false) → BothRuled w → Judged w s e false 0
      → Union s e (pairs_of w.lent.claimed) m
      → take_byte w c b ≡ continues (world (begun w c s (h ++ (b ∷ []))) w.lent.file (laid_out w.t.pairs m) w.lent.doubtful)
  pub claims_both : (w : World) (c b s e : ℕ) (h : List ℕ) (m d : Pairs) → Seventeenth w c b h (claims s e true) → BothRuled w → Judged w s e true 0
      → Union s e (pairs_of w.lent.claimed) m → Union s e (pairs_of w.lent.doubtful) d
      → take_byte w c b ≡ continues (world (begun w c s (h ++ (b ∷ []))) w.lent.file (laid_out w.t.pairs m) (laid_out w.t.pairs d))
  -- a payload's byte is stored at its place; after the last one the channel is in a header, or ends
  pub stored : (w : World) (c b p n : ℕ) (e : Bool) → state_at w.t c ≡ payload p (suc (suc n)) e
      → take_byte w c b ≡ continues (world (put_state w.t c (payload (suc p) (suc n) e)) (set w.lent.file p b) w.lent.claimed w.lent.doubtful)
  pub last_stored : (w : World) (c b p : ℕ) → state_at w.t c ≡ payload p 1 false
      → take_byte w c b ≡ continues (world (put_state w.t c (header [])) (set w.lent.file p b) w.lent.claimed w.lent.doubtful)
  pub last_ends : (w : World) (c b p : ℕ) → state_at w.t c ≡ payload p 1 true
      → take_byte w c b ≡ stops (world (put_state w.t c ended) (set w.lent.file p b) w.lent.claimed w.lent.doubtful)
  -- an ended channel's byte is not taken, nor one of a payload with nothing left, which does not fit
  pub ended_not_taken : (w : World) (c b : ℕ) → state_at w.t c ≡ ended → take_byte w c b ≡ not_taken w
  pub none_left_not_taken : (w : World) (c b p : ℕ) (e : Bool) → state_at w.t c ≡ payload p 0 e → take_byte w c b ≡ not_taken w
