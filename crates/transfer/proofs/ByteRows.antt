-- `ByteRows` holds.
use Prim.Native.Nat.{ℕ, zero, suc, ◌<◌}
use mathlib.Core.Path.{◌≡◌, refl, sym, ap, ◌∙◌}
use mathlib.Core.Logic.{◌⊎◌, inl, inr, ◌≢◌}
use mathlib.Core.Bool.{Bool, true, false, and-false}
use mathlib.Core.List.{List, [], ◌∷◌, ◌++◌}
use native.Mathlib.Omega.{arith}
use borrow.Author.Tests.{ne_eqb}
use lib.Dec.{ltb}
use lib.ListN.{set}
use Rattle.ledger.specs.Pairs.{Pairs, ObeyFrom}
use Rattle.ledger.specs.Ledger.{pairs_of, laid_out}
use Rattle.eblock.specs.Header.{second_of}
use Rattle.transfer.specs.Channel.{unused, header, payload, ended, state_at, put_state, put_fault, put_count}
use Rattle.transfer.specs.Transfer.{used_of, World, world, with_transfer}
use Rattle.transfer.specs.Header.{is_eodc, ends_channel, payload_length, HeaderRequest, counts, claims, nothing, faulty, claim_fault}
use Rattle.transfer.specs.Judgement.{HeaderAsks, for_claim, Union}
use Rattle.transfer.specs.Receive.{continues, stops, not_taken, stop_with_fault, expect_payload, with_range, claim_range, apply_request, store_payload_byte, take_byte}
use Rattle.transfer.specs.ByteRows.{Seventeenth, BothRuled, Judged, begun, ByteRows}
use Rattle.transfer.proofs.JudgementByTransfer.{asked_only}
use Rattle.transfer.proofs.Judgement.{union-is, claim_only}
use Rattle.transfer.proofs.FitByChannel.{ruled}
use Rattle.transfer.proofs.FitTests.{fits-together}
use Rattle.transfer.proofs.ReceiveBytes.{byte-unused, byte-held, byte-judged, byte-payload, byte-ended, claim-faulty, claim-opens}

first_held : (w : World) (c b : ℕ) → state_at w.t c ≡ unused → (w.t.count ≡ 0) ⊎ (used_of w.t ≢ w.t.count)
    → take_byte w c b ≡ continues (with_transfer w (put_state w.t c (header (b ∷ []))))
first_held w c b s (inl z) = byte-unused w c b s ∙ rw z
first_held w c b s (inr n) = byte-unused w c b s ∙ rw (ne_eqb (used_of w.t) w.t.count n, and-false (ltb 0 w.t.count))

-- ---- a 17th byte

range-asked : (F known used : ℕ) (h : List ℕ) (s e : ℕ) (doubt : Bool) → HeaderAsks F known used h (claims s e doubt) → (is_eodc h ≡ false) × (0 < second_of h) × (s < e)
range-asked F known used h _ _ _ (for_claim d q l f) = (q, l, omega arith)

module _ (w : World) (c b : ℕ) (h : List ℕ) where
  abbrev whole : List ℕ
  whole = h ++ (b ∷ [])

  heeded : (a : HeaderRequest) → Seventeenth w c b h a → take_byte w c b ≡ apply_request w c whole a
  heeded a s = byte-judged w c b h s.in_header (omega (arith, s.sixteen)) ∙ ap (apply_request w c whole) (sym (asked_only w.t.len w.t.count (used_of w.t) whole a s.asks))

  header_fault_is : (k : ℕ) → Seventeenth w c b h (faulty k) → take_byte w c b ≡ stops (with_transfer w (put_fault (put_state w.t c (header [])) k c))
  unfolding apply_request stop_with_fault
  header_fault_is k s = heeded (faulty k) s

  count_continues : (n : ℕ) → Seventeenth w c b h (counts n) → ends_channel whole ≡ false → take_byte w c b ≡ continues (with_transfer w (put_state (put_count w.t n) c (header [])))
  unfolding apply_request expect_payload
  count_continues n s z = heeded (counts n) s ∙ rw z

  count_ends : (n : ℕ) → Seventeenth w c b h (counts n) → ends_channel whole ≡ true → take_byte w c b ≡ stops (with_transfer w (put_state (put_count w.t n) c ended))
  unfolding apply_request expect_payload
  count_ends n s z = heeded (counts n) s ∙ rw z

  empty_continues : Seventeenth w c b h nothing → ends_channel whole ≡ false → take_byte w c b ≡ continues (with_transfer w (put_state w.t c (header [])))
  unfolding apply_request expect_payload
  empty_continues s z = heeded nothing s ∙ rw z

  empty_ends : Seventeenth w c b h nothing → ends_channel whole ≡ true → take_byte w c b ≡ stops (with_transfer w (put_state w.t c ended))
  unfolding apply_request expect_payload
  empty_ends s z = heeded nothing s ∙ rw z

  module _ (s e : ℕ) (doubt : Bool) (x : Seventeenth w c b h (claims s e doubt)) (r : BothRuled w) where
    range : (is_eodc whole ≡ false) × (0 < second_of whole) × (s < e)
    range = range-asked w.t.len w.t.count (used_of w.t) whole s e doubt x.asks

    judged : (k : ℕ) → Judged w s e doubt k → claim_fault w.t.pairs (pairs_of w.lent.claimed) (pairs_of w.lent.doubtful) s e doubt ≡ k
    judged k j = sym (claim_only w.t.pairs (pairs_of w.lent.claimed) (pairs_of w.lent.doubtful) s e doubt range.2 r.0 r.1 k j)

    claim_fault_is : (k : ℕ) → Judged w s e doubt k → 0 < k → take_byte w c b ≡ stops (with_transfer w (put_fault (put_state w.t c (header [])) k c))
    unfolding stop_with_fault
    claim_fault_is zero j p = absurd (omega arith)
    claim_fault_is (suc k) j p = heeded (claims s e doubt) x ∙ claim-faulty w c whole s e doubt k (judged (suc k) j)

    -- the ledgers as they are with the range
    opens : Judged w s e doubt 0 → take_byte w c b ≡ continues (with_transfer (claim_range w s e doubt) (begun w c s whole))
    unfolding expect_payload claim_range payload_length
    opens j = heeded (claims s e doubt) x ∙ claim-opens w c whole s e doubt (judged 0 j) ∙ begins (second_of whole) refl
      where
        begins : (n : ℕ) → second_of whole ≡ n
            → expect_payload (claim_range w s e doubt) c s (payload_length whole) (ends_channel whole) ≡ continues (with_transfer (claim_range w s e doubt) (put_state w.t c (payload s n (ends_channel whole))))
        begins zero y = absurd (omega (arith, range.1))
        begins (suc n) y = rw (range.0, y)

    -- a ledger with the range is the one with the union
    laid : (l : List ℕ) (m : Pairs) → ObeyFrom 0 (pairs_of l) → Union s e (pairs_of l) m → with_range w.t.pairs s e l ≡ laid_out w.t.pairs m
    unfolding with_range
    laid l m q u = ap (laid_out w.t.pairs) (sym (union-is s e range.2 (pairs_of l) q m u))

  claimed : (s e : ℕ) (m : Pairs) → Seventeenth w c b h (claims s e false) → BothRuled w → Judged w s e false 0 → Union s e (pairs_of w.lent.claimed) m
      → take_byte w c b ≡ continues (world (begun w c s whole) w.lent.file (laid_out w.t.pairs m) w.lent.doubtful)
  unfolding claim_range
  claimed s e m x r j u = opens s e false x r j ∙ ap (λ l. continues (world (begun w c s whole) w.lent.file l w.lent.doubtful)) (laid s e false x r w.lent.claimed m r.0 u)

  claims_both : (s e : ℕ) (m d : Pairs) → Seventeenth w c b h (claims s e true) → BothRuled w → Judged w s e true 0 → Union s e (pairs_of w.lent.claimed) m → Union s e (pairs_of w.lent.doubtful) d
      → take_byte w c b ≡ continues (world (begun w c s whole) w.lent.file (laid_out w.t.pairs m) (laid_out w.t.pairs d))
  unfolding claim_range
  claims_both s e m d x r j u v =
      opens s e true x r j
      ∙ ap (λ l. continues (world (begun w c s whole) w.lent.file l (with_range w.t.pairs s e w.lent.doubtful))) (laid s e true x r w.lent.claimed m r.0 u)
      ∙ ap (λ l. continues (world (begun w c s whole) w.lent.file (laid_out w.t.pairs m) l)) (laid s e true x r w.lent.doubtful d r.1 v)

-- ---- a payload's byte

module _ (w : World) (c b p : ℕ) where
  abbrev with_byte : World
  with_byte = world w.t (set w.lent.file p b) w.lent.claimed w.lent.doubtful

  stored : (n : ℕ) (e : Bool) → state_at w.t c ≡ payload p (suc (suc n)) e → take_byte w c b ≡ continues (with_transfer with_byte (put_state w.t c (payload (suc p) (suc n) e)))
  unfolding store_payload_byte expect_payload
  stored n e s = byte-payload w c b p (suc (suc n)) e s

  none_left : (e : Bool) → state_at w.t c ≡ payload p 0 e → take_byte w c b ≡ not_taken w
  unfolding store_payload_byte
  none_left e s = byte-payload w c b p 0 e s

  last_stored : state_at w.t c ≡ payload p 1 false → take_byte w c b ≡ continues (with_transfer with_byte (put_state w.t c (header [])))
  unfolding store_payload_byte expect_payload
  last_stored s = byte-payload w c b p 1 false s

  last_ends : state_at w.t c ≡ payload p 1 true → take_byte w c b ≡ stops (with_transfer with_byte (put_state w.t c ended))
  unfolding store_payload_byte expect_payload
  last_ends s = byte-payload w c b p 1 true s

pub byte_rows : ByteRows
byte_rows =
    record {
      first_held = first_held;
      next_held = byte-held;
      header_fault_is = λ w c b k h. header_fault_is w c b h k;
      count_continues = λ w c b n h. count_continues w c b h n;
      count_ends = λ w c b n h. count_ends w c b h n;
      empty_continues = empty_continues;
      empty_ends = empty_ends;
      both_ruled = λ w e. let f = fits-together w e in (ruled w.lent.claimed f.rule, ruled w.lent.doubtful f.doubtful_rule);
      claim_fault_is = λ w c b k s e doubt h x r. claim_fault_is w c b h s e doubt x r k;
      claimed = λ w c b s e h m. claimed w c b h s e m;
      claims_both = λ w c b s e h m d. claims_both w c b h s e m d;
      stored = stored;
      last_stored = last_stored;
      last_ends = last_ends;
      ended_not_taken = byte-ended;
      none_left_not_taken = none_left;
    }
