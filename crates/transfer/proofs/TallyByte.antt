-- One byte: the receiver on the world of a tally does what the tally does.
use Prim.Native.Nat.{ℕ, zero, suc, ◌+◌, ◌≤◌, ◌<◌}
use mathlib.Core.Path.{◌≡◌, refl, sym, ap, ◌∙◌, subst}
use mathlib.Core.Logic.{inl, inr, ◌≢◌}
use mathlib.Core.Bool.{Bool, true, false, cond, ◌&&◌, true≢false}
use mathlib.Core.List.{List, [], ◌∷◌, ◌++◌, append_assoc, append-nil}
use native.Mathlib.Omega.{arith}
use native.Mathlib.Decide.{dec_lt}
use borrow.Author.Tests.{lt-ltb, eq-eqb, ne_eqb}
use lib.Dec.{ltb, eqb}
use lib.ListN.{length, get_or, set, length-append}
use Rattle.ledger.specs.Pairs.{Pairs, ObeyFrom}
use Rattle.ledger.specs.Ledger.{pairs_of, laid_out}
use Rattle.eblock.specs.Header.{second_of, third_of}
use Rattle.transfer.specs.Channel.{channel_count, held_limit, unused, header, state_at, put_state, put_fault}
use Rattle.transfer.specs.Transfer.{used_of, World, with_transfer}
use Rattle.transfer.specs.Header.{is_doubtful, HeaderRequest, counts, claims, nothing, faulty, request_of, claim_fault}
use Rattle.transfer.specs.Judgement.{HeaderAsks, for_count, for_nothing, for_claim}
use Rattle.transfer.specs.Receive.{continues, stops, not_taken, stop_with_fault, apply_request, take_byte, is_non_empty, is_ended}
use Rattle.transfer.specs.Block.{Block, block, cut, cut_by, partial_header, partial_header_by, counts_in, claims_in, with_payloads, block_bytes}
use Rattle.transfer.specs.Tally.{Tally, Stream, intact, faulted, taken, all_but_last, accepted, blocks_of, counts_of, known_count, claimed, doubted, one_if, used_in, stream_at, with_stream, tally_with_fault, keep_bytes, apply_judgement, request_fault, tally_byte_after as tally_byte_on, tally_byte as tally_byte_of}
use Rattle.transfer.proofs.BlockClaims.{claims-ruled}
use Rattle.transfer.proofs.BlockDoubts.{doubts_in, doubts-ruled}
use Rattle.transfer.proofs.BlockCut.{Done, cuts-header, cuts-payload}
use Rattle.transfer.specs.StateFrom.{state_from}
use Rattle.transfer.proofs.StateFrom.{all_but_last-last}
use Rattle.transfer.proofs.ChannelBytes.{Shape, no_byte, in_header, in_payload, at_end, Proper, state_from-header, state_from-payload, state_from-end}
use Rattle.transfer.proofs.TallyStreams.{proper-at}
use Rattle.transfer.proofs.Sums.{sum-set}
use Rattle.transfer.proofs.TallyTransfer.{transfer_of, world_of, state_is, put_is, fault_is, used-is}
use Rattle.transfer.proofs.JudgementByTransfer.{Numbered, asked, in-range}
use Rattle.transfer.proofs.Judgement.{claim-numbered, claim-accepted}
use Rattle.transfer.proofs.ReceiveBytes.{byte-unused, byte-held, byte-judged, byte-payload, claim-faulty, claim-opens}
use Rattle.transfer.proofs.TallyInvariant.{Count, unknown, announced, intact-at, Invariant, stays, used-same, same_blocks, kept-fault, kept-spoilt}
use Rattle.transfer.proofs.TallyByteCases.{Follows, both_stop, both_leave, world_is, is_some-append, goes_on}
use Rattle.transfer.proofs.TallyPayloadByte.{fills}
use Rattle.transfer.proofs.TallyHeader.{pairs-are, doubts-are, accepts-count, accepts-nothing, accepts-claim}

module _ (F R : ℕ) (before : Pairs) (file : List ℕ) (ruled : ObeyFrom 0 before) where
  -- ---- a header's 17th byte

  module _ (t : Tally) (c : ℕ) (bs : List ℕ) (done : List Block) (r : List ℕ) (b : ℕ) (i : Invariant F R before t) (z : t.fault ≡ 0) (k : c < channel_count) (e : stream_at t c ≡ intact bs)
      (d : Done done) (y : length r ≡ held_limit) (u : is_non_empty bs ≡ true) (g : bs ≡ block_bytes done ++ r) where
    abbrev head : List ℕ
    head = r ++ b ∷ []

    gone : accepted (faulted (bs ++ b ∷ [])) ≡ done
    unfolding accepted
    gone =
        ap (λ m. all_but_last (cut m)) (ap (λ a. a ++ b ∷ []) g ∙ append_assoc (block_bytes done) r (b ∷ []) ∙ ap (λ a. block_bytes done ++ a) (sym (append-nil head)))
        ∙ ap all_but_last (cuts-payload done head [] d (omega (arith, length-append r (b ∷ []))) (omega arith)).0
        ∙ all_but_last-last done (block head [])

    was : accepted (stream_at t c) ≡ done
    unfolding accepted
    was = ap accepted e ∙ ap cut g ∙ (cuts-header done r d (omega arith)).0

    -- judged a fault
    spoils : (n : ℕ) → 11 ≤ n → n ≤ 18 → Follows F R before file t c (stop_with_fault (world_of F R before file t) c n) (stops (tally_with_fault (with_stream t c (faulted (bs ++ b ∷ []))) n c))
    unfolding stop_with_fault world_of
    spoils n a a' =
        both_stop (tally_with_fault (with_stream t c (faulted (bs ++ b ∷ []))) n c) refl
        (ap stops
        (world_is
        (ap (λ s. put_fault s n c) (ap (put_state (transfer_of F R t) c) cleared ∙ put_is F R t c (faulted (bs ++ b ∷ [])) i.proper (omega (arith, i.number)) (ap (λ m. get_or (counts_in m) 0 0) same))
        ∙ fault_is F R (with_stream t c (faulted (bs ++ b ∷ []))) n c)
        (ap (λ m. with_payloads m file) (sym same)) (ap (λ m. laid_out R (claims_in m before)) (sym same)) (ap (λ m. laid_out R (doubts_in m)) (sym same))))
        (kept-spoilt F R before t c (bs ++ b ∷ []) n i k (subst Done (sym gone) d, is_some-append bs b) (gone ∙ sym was) (ap (λ s. one_if (is_non_empty (taken s))) e ∙ ap one_if u) a (omega arith))
        (stays same)
      where
        cleared : header [] ≡ state_from (faulted (bs ++ b ∷ []))
        cleared = unfold state_from in refl

        same : blocks_of (set t.streams c (faulted (bs ++ b ∷ []))) ≡ blocks_of t.streams
        same = same_blocks t c (faulted (bs ++ b ∷ [])) (omega (arith, i.number)) (gone ∙ sym was)

    heeded : (a : HeaderRequest) → HeaderAsks F (known_count t.streams) (used_in t.streams) head a
        → Follows F R before file t c (apply_request (world_of F R before file t) c head a) (apply_judgement t c (bs ++ b ∷ []) (request_fault R (claimed before t.streams) (doubted t.streams) a))
    unfolding apply_request apply_judgement request_fault world_of transfer_of
    heeded (faulty zero) a = absurd (omega (arith, (in-range F (known_count t.streams) (used_in t.streams) head (faulty zero) a).0))
    heeded (faulty (suc n)) a = let m = in-range F (known_count t.streams) (used_in t.streams) head (faulty (suc n)) a in spoils (suc n) m.0 m.1
    heeded (counts n) (for_count f₀ q k₀ n₀ n₁ n₂) = accepts-count F R before file ruled t c bs done r b i z k e d y u g f₀ q k₀ n₀ n₁ n₂
    heeded nothing (for_nothing f₀ q q₀) = accepts-nothing F R before file ruled t c bs done r b i z k e d y u g f₀ q q₀
    heeded (claims s f doubt) (for_claim f₀ q q₀ q₁) = go (as_judged (claimed before t.streams) (doubted t.streams)) refl
      where
        as_judged : Pairs → Pairs → ℕ
        as_judged ps ds = claim_fault R ps ds (third_of head) (third_of head + second_of head) (is_doubtful head)

        by-ledgers : as_judged (pairs_of (world_of F R before file t).lent.claimed) (pairs_of (world_of F R before file t).lent.doubtful) ≡ as_judged (claimed before t.streams) (doubted t.streams)
        by-ledgers = rw (pairs-are F R before file ruled t i, doubts-are F R before file ruled t i)

        ruled-now : ObeyFrom 0 (claimed before t.streams)
        ruled-now = claims-ruled (blocks_of t.streams) before ruled

        go : (n : ℕ) → as_judged (claimed before t.streams) (doubted t.streams) ≡ n
            → Follows F R before file t c (apply_request (world_of F R before file t) c head (claims (third_of head) (third_of head + second_of head) (is_doubtful head))) (apply_judgement t c (bs ++ b ∷ []) n)
        go zero w =
            let a = claim-accepted R (claimed before t.streams) (doubted t.streams) (third_of head) (third_of head + second_of head) (is_doubtful head) (omega arith) ruled-now (doubts-ruled (blocks_of t.streams)) w in
            rw (claim-opens (world_of F R before file t) c head (third_of head) (third_of head + second_of head) (is_doubtful head) (by-ledgers ∙ w))
            (accepts-claim F R before file ruled t c bs done r b i z k e d y u g f₀ q q₀ q₁ a.0 a.1 a.2)
        go (suc n) w =
            rw (claim-faulty (world_of F R before file t) c head (third_of head) (third_of head + second_of head) (is_doubtful head) n (by-ledgers ∙ w))
            (numbered (claim-numbered R (claimed before t.streams) (doubted t.streams) (third_of head) (third_of head + second_of head) (is_doubtful head) (omega arith) ruled-now (doubts-ruled (blocks_of t.streams))))
          where
            numbered : Numbered (as_judged (claimed before t.streams) (doubted t.streams))
                → Follows F R before file t c (stop_with_fault (world_of F R before file t) c (suc n)) (stops (tally_with_fault (with_stream t c (faulted (bs ++ b ∷ []))) (suc n) c))
            numbered (inl l) = absurd (omega (arith, w))
            numbered (inr l) = spoils (suc n) (omega (arith, w, l.0)) (omega (arith, w, l.1))

  -- ---- any byte

  pub step : (t : Tally) (c b : ℕ) → Invariant F R before t → t.fault ≡ 0 → c < channel_count → is_ended (state_from (stream_at t c)) ≡ false
      → Follows F R before file t c (take_byte (world_of F R before file t) c b) (tally_byte_of F R before t c b)
  unfolding tally_byte_of tally_byte_on world_of transfer_of accepted block_bytes partial_header_by
  step t c b i z k o = go (subst Proper e (proper-at t.streams c i.proper))
    where
      bs : List ℕ
      bs = taken (stream_at t c)

      e : stream_at t c ≡ intact bs
      e = intact-at t.streams c (i.clean z)

      h' : c < length t.streams
      h' = omega (arith, i.number)

      state : state_at (transfer_of F R t) c ≡ state_from (intact bs)
      state = state_is F R t c i.proper h' ∙ ap state_from e

      used-eq : used_of (transfer_of F R t) ≡ used_in t.streams
      used-eq = used-is F R t i.proper

      first : bs ≡ [] → (q : Bool) → (ltb 0 (known_count t.streams) && eqb (used_in t.streams) (known_count t.streams)) ≡ q
          → Follows F R before file t c
          (cond q (not_taken (with_transfer (world_of F R before file t) (put_fault (transfer_of F R t) 19 c))) (continues (with_transfer (world_of F R before file t) (put_state (transfer_of F R t) c (header (b ∷ []))))))
          (cond q (not_taken (tally_with_fault t 19 c)) (keep_bytes t c (b ∷ [])))
      first n true q = both_leave (tally_with_fault t 19 c) refl (unfold put_fault in refl) (kept-fault F R before t 19 c i (omega arith) (omega arith) k) (stays refl)
      first n false q =
          goes_on F R before file t c (b ∷ []) i z k (in_header [] (b ∷ []) tt (omega arith) refl refl)
          ((cuts-header [] (b ∷ []) tt (omega arith)).0 ∙ sym (ap accepted (e ∙ ap intact n) ∙ (unfold cut_by in refl)))
          (more i.count) (header (b ∷ [])) (state_from-header (b ∷ []) [] (b ∷ []) tt (omega arith) refl refl) refl
        where
          one_more : used_in (set t.streams c (intact (b ∷ []))) ≡ suc (used_in t.streams)
          one_more =
              omega (arith, sum-set (λ (s : Stream). one_if (is_non_empty (taken s))) (intact []) t.streams c (intact (b ∷ [])) h', ap (λ s. one_if (is_non_empty (taken s))) (e ∙ ap intact n))

          more : Count (counts_of t.streams) (used_in t.streams) → Count (counts_of t.streams) (used_in (set t.streams c (intact (b ∷ []))))
          more (unknown x) = unknown x
          more (announced n x x₀ x₁ x₂) =
              let kn : known_count t.streams ≡ n = ap (λ m. get_or m 0 0) x in
              let ne : used_in t.streams ≢ n =
              λ y. true≢false (sym (rw (lt-ltb 0 (known_count t.streams) (omega arith), eq-eqb (used_in t.streams) (known_count t.streams) (omega arith))) ∙ q) in
              announced n x x₀ x₁ (omega (arith, one_more))

      w : World
      w = world_of F R before file t

      go : Shape bs → Follows F R before file t c (take_byte w c b) (tally_byte_on F R before t c bs b)
      go (no_byte n) =
          let v : state_from (intact []) ≡ unused = unfold state_from in refl in
          rw (byte-unused w c b (state ∙ ap state_from (ap intact n) ∙ v), used-eq, n) (first n (ltb 0 (known_count t.streams) && eqb (used_in t.streams) (known_count t.streams)) refl)
      go (in_header done r d hr u g) = sized (dec_lt (length r) held_limit)
        where
          over-is : partial_header bs ≡ r
          over-is = ap partial_header g ∙ (cuts-header done r d hr).1

          new : bs ++ b ∷ [] ≡ block_bytes done ++ (r ++ b ∷ [])
          new = ap (λ a. a ++ b ∷ []) g ∙ append_assoc (block_bytes done) r (b ∷ [])

          longer-by : length (r ++ b ∷ []) ≡ suc (length r)
          longer-by = omega (arith, length-append r (b ∷ []))

          same-used : used_in (set t.streams c (intact (bs ++ b ∷ []))) ≡ used_in t.streams
          same-used = used-same t c (intact (bs ++ b ∷ [])) h' (ap (λ s. one_if (is_non_empty (taken s))) e ∙ ap one_if u) (is_some-append bs b)

          sized : Dec (length r < held_limit) → Follows F R before file t c (take_byte w c b) (tally_byte_on F R before t c bs b)
          sized (yes y) =
              rw (byte-held w c b r (state ∙ state_from-header bs done r d hr u g) y, u, over-is, ne_eqb (length r) held_limit (λ x. omega arith))
              (goes_on F R before file t c (bs ++ b ∷ []) i z k (in_header done (r ++ b ∷ []) d (omega (arith, longer-by)) (is_some-append bs b) new)
              (ap cut new ∙ (cuts-header done (r ++ b ∷ []) d (omega (arith, longer-by))).0 ∙ sym (ap accepted e ∙ ap cut g ∙ (cuts-header done r d hr).0))
              (rw same-used i.count) (header (r ++ b ∷ [])) (state_from-header (bs ++ b ∷ []) done (r ++ b ∷ []) d (omega (arith, longer-by)) (is_some-append bs b) new) refl)
          sized (no y) =
              rw (byte-judged w c b r (state ∙ state_from-header bs done r d hr u g) (omega arith), u, over-is, eq-eqb (length r) held_limit (omega arith), used-eq)
              (heeded t c bs done r b i z k e d (omega arith) u g (request_of F (known_count t.streams) (used_in t.streams) (r ++ b ∷ [])) (asked F (known_count t.streams) (used_in t.streams) (r ++ b ∷ [])))
      go (in_payload done h p d y q u g) =
          rw (byte-payload w c b _ _ _ (state ∙ state_from-payload bs done h p d y q u g), u, ap partial_header g ∙ (cuts-payload done h p d y (omega arith)).1) (fills F R before file t c bs done h p b i z k e d y q u g)
      go (at_end done h p d y q x u g) =
          absurd (true≢false (sym (ap (λ s. is_ended (state_from s)) e ∙ ap is_ended (state_from-end bs done h p d y q x u g)) ∙ o))
