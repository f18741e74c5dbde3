-- A header accepted at its 17th byte: a count, a claim, or neither.
use Prim.Native.Nat.{ℕ, ◌+◌, ◌-◌, ◌≤◌, ◌<◌}
use mathlib.Core.Path.{◌≡◌, refl, sym, ap, ◌∙◌}
use mathlib.Core.Bool.{Bool, true, false, cond}
use mathlib.Core.List.{List, [], ◌∷◌, ◌++◌, append_assoc, append-nil}
use native.Mathlib.Omega.{arith}
use borrow.Author.Tests.{eq-eqb, ne_eqb}
use lib.ListN.{length, get_or, set, length-append, length-set}
use Rattle.ledger.specs.Pairs.{Pairs, size, in_range, contains, ObeyFrom, join, overlaps, ends_at_most}
use Rattle.ledger.specs.Ledger.{pairs_of, laid_out}
use Rattle.ledger.proofs.PairsJoin.{join-ends}
use Rattle.ledger.proofs.PairsOverlap.{shares-none}
use Rattle.ledger.proofs.LedgerLayout.{pairs_of-laid_out}
use Rattle.eblock.specs.Descriptor.{fault_of}
use Rattle.eblock.specs.Header.{count_limit, descriptor_of, second_of, third_of}
use Rattle.transfer.specs.Channel.{channel_count, held_limit, put_count}
use Rattle.transfer.specs.Transfer.{sum, with_transfer, ended_of}
use Rattle.transfer.specs.Header.{is_eodc, ends_channel, is_doubtful, payload_length}
use Rattle.transfer.specs.Receive.{expect_payload, with_range, claim_range, is_non_empty}
use Rattle.transfer.specs.Block.{Block, block, place_of, size_of, cut, counts_in, add_claim, claims_in, with_payloads, block_bytes}
use Rattle.transfer.specs.Tally.{Tally, Stream, intact, taken, accepted, blocks_of, counts_of, known_count, claimed, doubted, one_if, used_in, stream_at, with_stream, keep_bytes}
use Rattle.transfer.proofs.BlockClaims.{sum-insert, hit_by, cover, claims-ruled, claims-holds, claims-insert}
use Rattle.transfer.proofs.BlockDoubts.{doubts_in, doubts-ruled, add_doubt, doubts-insert}
use Rattle.transfer.proofs.BlockCounts.{counts-without, counts-first}
use Rattle.transfer.proofs.BlockPayloads.{with_payloads-insert}
use Rattle.transfer.proofs.BlockCut.{Done, cuts-header}
use Rattle.transfer.specs.StateFrom.{state_from}
use Rattle.transfer.proofs.ChannelBytes.{in_range-nothing}
use Rattle.transfer.proofs.TallyStreams.{proper-set, Split, split}
use Rattle.transfer.proofs.TallyTransfer.{transfer_of, world_of, put_is, put-count-is}
use Rattle.transfer.proofs.TallyInvariant.{Count, unknown, announced, intact-set, header_fault, Invariant, opens_block, used-same}
use Rattle.transfer.proofs.TallyByteCases.{Follows, world_is, is_some-append, tip_of, Opened, opened, opens-on}

claim-none : (x : Block) (ps : Pairs) → size_of x ≡ 0 → add_claim x ps ≡ ps
unfolding add_claim
claim-none x ps e = rw (eq-eqb (size_of x) 0 e)

doubt-none : (x : Block) (ps : Pairs) → size_of x ≡ 0 → add_doubt x ps ≡ ps
doubt-none x ps e = go (is_doubtful x.head)
  where
    go : (d : Bool) → cond d (add_claim x ps) ps ≡ ps
    go true = claim-none x ps e
    go false = refl

claim-some : (x : Block) (ps : Pairs) → 0 < size_of x → add_claim x ps ≡ join (place_of x) (place_of x + size_of x) ps
unfolding add_claim
claim-some x ps e = rw (ne_eqb (size_of x) 0 (λ q. omega arith))

module _ (F R : ℕ) (before : Pairs) (file : List ℕ) (ruled : ObeyFrom 0 before) where
  -- the ledgers hold what is claimed and what is doubtful
  pub pairs-are : (t : Tally) → Invariant F R before t → pairs_of (laid_out R (claimed before t.streams)) ≡ claimed before t.streams
  pairs-are t i = pairs_of-laid_out R 0 (claimed before t.streams) (claims-ruled (blocks_of t.streams) before ruled) i.room

  pub doubts-are : (t : Tally) → Invariant F R before t → pairs_of (laid_out R (doubted t.streams)) ≡ doubted t.streams
  doubts-are t i = pairs_of-laid_out R 0 (doubted t.streams) (doubts-ruled (blocks_of t.streams)) i.doubt_room

  module _ (t : Tally) (c : ℕ) (bs : List ℕ) (done : List Block) (r : List ℕ) (b : ℕ) (i : Invariant F R before t) (z : t.fault ≡ 0) (k : c < channel_count) (e : stream_at t c ≡ intact bs)
      (d : Done done) (y : length r ≡ held_limit) (u : is_non_empty bs ≡ true) (g : bs ≡ block_bytes done ++ r) where
    abbrev head : List ℕ
    head = r ++ b ∷ []

    abbrev next : List Stream
    next = set t.streams c (intact (bs ++ b ∷ []))

    abbrev x : Block
    x = block head []

    h' : c < length t.streams
    h' = omega (arith, i.number)

    pub new : Opened (bs ++ b ∷ []) done head []
    new =
        opened (bs ++ b ∷ []) done head [] d (omega (arith, length-append r (b ∷ []))) (omega arith) (is_some-append bs b)
        (ap (λ a. a ++ b ∷ []) g ∙ append_assoc (block_bytes done) r (b ∷ []) ∙ ap (λ a. block_bytes done ++ a) (sym (append-nil head)))

    looks : state_from (intact (bs ++ b ∷ [])) ≡ tip_of (third_of head) (payload_length head) (ends_channel head)
    looks =
        let a : third_of head + 0 ≡ third_of head = omega arith in
        let a' : payload_length head - 0 ≡ payload_length head = omega arith in
        new.looks ∙ rw (a, a')

    was : accepted (stream_at t c) ≡ done
    unfolding accepted
    was = ap accepted e ∙ ap cut g ∙ (cuts-header done r d (omega arith)).0

    around : Split t.streams c
    around = split t.streams c h'

    front : List Block
    front = around.front ++ done

    now : blocks_of t.streams ≡ front ++ around.back
    unfolding front
    now = around.now ∙ ap (λ m. around.front ++ (m ++ around.back)) was ∙ sym (append_assoc around.front done around.back)

    then : blocks_of next ≡ front ++ x ∷ around.back
    unfolding front
    then =
        around.then (intact (bs ++ b ∷ [])) ∙ ap (λ m. around.front ++ (m ++ around.back)) new.blocks ∙ ap (λ m. around.front ++ m) (append_assoc done (x ∷ []) around.back)
        ∙ sym (append_assoc around.front done (x ∷ around.back))

    pub claims-are : claimed before next ≡ add_claim x (claimed before t.streams)
    claims-are = ap (λ m. claims_in m before) then ∙ claims-insert front x around.back before ruled ∙ ap (λ m. add_claim x (claims_in m before)) (sym now)

    pub doubt-added : doubted next ≡ add_doubt x (doubted t.streams)
    doubt-added = ap doubts_in then ∙ doubts-insert front x around.back ∙ ap (λ m. add_doubt x (doubts_in m)) (sym now)

    -- the block adds its number
    pub sum_is : (w : Block → ℕ) → sum w (blocks_of next) ≡ w x + sum w (blocks_of t.streams)
    sum_is w = ap (sum w) then ∙ sum-insert w front x around.back ∙ ap (λ m. w x + sum w m) (sym now)

    same-file : with_payloads (blocks_of next) file ≡ with_payloads (blocks_of t.streams) file
    same-file = ap (λ m. with_payloads m file) then ∙ with_payloads-insert front x around.back file refl ∙ ap (λ m. with_payloads m file) (sym now)

    used-now : one_if (is_non_empty (taken (stream_at t c))) ≡ 1
    used-now = ap (λ s. one_if (is_non_empty (taken s))) e ∙ ap one_if u

    same-used : used_in next ≡ used_in t.streams
    same-used = used-same t c (intact (bs ++ b ∷ [])) h' used-now (is_some-append bs b)

    kept : fault_of (descriptor_of head) ≡ 0 → ((o : ℕ) → hit_by o x + cover o (blocks_of t.streams) + contains o before ≤ 1) → ends_at_most F (add_claim x (claimed before t.streams)) ≡ true → size (add_claim x (claimed before t.streams)) ≤ R
        → size (add_doubt x (doubted t.streams)) ≤ R → Count (counts_of next) (used_in t.streams) → Invariant F R before (with_stream t c (intact (bs ++ b ∷ [])))
    kept f₀ p₁ p₂ p₃ p₅ p₄ =
        record {
          number = length-set t.streams c (intact (bs ++ b ∷ [])) ∙ i.number;
          proper = proper-set t.streams c (intact (bs ++ b ∷ [])) i.proper new.shape;
          clean = λ o. intact-set t.streams c (bs ++ b ∷ []) (i.clean o);
          apart = λ o. rw (sum_is (hit_by o)) (p₁ o);
          ends = rw claims-are p₂;
          room = rw claims-are p₃;
          doubt_room = rw doubt-added p₅;
          count = rw same-used p₄;
          fault = i.fault;
          headers = sum_is header_fault ∙ omega (arith, f₀, i.headers);
        }

    same-counts : is_eodc head ≡ false → counts_of next ≡ counts_of t.streams
    same-counts q = ap counts_in then ∙ counts-without front x around.back q ∙ ap counts_in (sym now)

    -- a block without a payload
    module _ (s₀ : payload_length head ≡ 0) where
      kept-empty : fault_of (descriptor_of head) ≡ 0 → Count (counts_of next) (used_in t.streams) → Invariant F R before (with_stream t c (intact (bs ++ b ∷ [])))
      kept-empty f₀ n =
          kept f₀ (λ o. omega (arith, i.apart o, in_range-nothing (place_of x) (place_of x + size_of x) o (omega arith)))
          (rw (claim-none x (claimed before t.streams) s₀) i.ends) (rw (claim-none x (claimed before t.streams) s₀) i.room) (rw (doubt-none x (doubted t.streams) s₀) i.doubt_room) n

      same-claims : claimed before next ≡ claimed before t.streams
      same-claims = claims-are ∙ claim-none x (claimed before t.streams) s₀

      same-doubts : doubted next ≡ doubted t.streams
      same-doubts = doubt-added ∙ doubt-none x (doubted t.streams) s₀

      tip-empty : state_from (intact (bs ++ b ∷ [])) ≡ tip_of 0 0 (ends_channel head)
      tip-empty = looks ∙ ap (λ n. tip_of (third_of head) n (ends_channel head)) s₀ ∙ no_place (ends_channel head)
        where
          no_place : (l : Bool) → tip_of (third_of head) 0 l ≡ tip_of 0 0 l
          no_place true = refl
          no_place false = refl

    pub accepts-count : fault_of (descriptor_of head) ≡ 0 → is_eodc head ≡ true → known_count t.streams ≡ 0 → 0 < third_of head → third_of head ≤ count_limit → used_in t.streams ≤ third_of head
        → Follows F R before file t c (expect_payload (with_transfer (world_of F R before file t) (put_count (transfer_of F R t) (third_of head))) c 0 0 (ends_channel head)) (keep_bytes t c (bs ++ b ∷ []))
    unfolding world_of transfer_of put_count ended_of
    accepts-count f₀ q k₀ n₀ n₁ n₂ =
        opens-on F R before file t c (bs ++ b ∷ []) i z k new.shape (kept-empty s₀ f₀ (announced (third_of head) the-count n₀ n₁ n₂))
        (opens_block front x around.back now then) (with_transfer (world_of F R before file t) (put_count (transfer_of F R t) (third_of head)))
        (world_is (put-count-is F R t c (intact (bs ++ b ∷ [])) (third_of head) i.proper h' (ap (λ m. get_or m 0 0) the-count)) (sym same-file) (ap (laid_out R) (sym (same-claims s₀))) (ap (laid_out R) (sym (same-doubts s₀))))
        0 0 (ends_channel head) (tip-empty s₀)
      where
        s₀ : payload_length head ≡ 0
        s₀ = unfold payload_length in rw q

        none_yet : Count (counts_of t.streams) (used_in t.streams) → counts_of t.streams ≡ []
        none_yet (unknown o) = o
        none_yet (announced n o o₁ o₂ o₃) = absurd (omega (arith, k₀, ap (λ m. get_or m 0 0) o))

        the-count : counts_of next ≡ third_of head ∷ []
        the-count = ap counts_in then ∙ counts-first front x around.back q (ap counts_in (sym now) ∙ none_yet i.count)

    pub accepts-nothing : fault_of (descriptor_of head) ≡ 0 → is_eodc head ≡ false → second_of head ≡ 0
        → Follows F R before file t c (expect_payload (world_of F R before file t) c 0 0 (ends_channel head)) (keep_bytes t c (bs ++ b ∷ []))
    unfolding world_of transfer_of
    accepts-nothing f₀ q q₀ =
        opens-on F R before file t c (bs ++ b ∷ []) i z k new.shape (kept-empty s₀ f₀ (rw (same-counts q) i.count))
        (opens_block front x around.back now then) (world_of F R before file t)
        (world_is (put_is F R t c (intact (bs ++ b ∷ [])) i.proper h' (ap (λ m. get_or m 0 0) (same-counts q))) (sym same-file) (ap (laid_out R) (sym (same-claims s₀))) (ap (laid_out R) (sym (same-doubts s₀))))
        0 0 (ends_channel head) (tip-empty s₀)
      where
        s₀ : payload_length head ≡ 0
        s₀ = unfold payload_length in rw q q₀

    pub sized : is_eodc head ≡ false → payload_length head ≡ second_of head
    sized q = unfold payload_length in rw q

    pub joins : is_eodc head ≡ false → 0 < second_of head → add_claim x (claimed before t.streams) ≡ join (third_of head) (third_of head + second_of head) (claimed before t.streams)
    joins q q₀ = claim-some x (claimed before t.streams) (omega (arith, sized q)) ∙ ap (λ m. join (third_of head) (third_of head + m) (claimed before t.streams)) (sized q)

    -- a doubtful block's range is joined to what is doubtful
    pub doubt-joins : is_eodc head ≡ false → 0 < second_of head → add_doubt x (doubted t.streams) ≡ cond (is_doubtful head) (join (third_of head) (third_of head + second_of head) (doubted t.streams)) (doubted t.streams)
    doubt-joins q q₀ =
        ap (λ m. cond (is_doubtful head) m (doubted t.streams))
        (claim-some x (doubted t.streams) (omega (arith, sized q)) ∙ ap (λ m. join (third_of head) (third_of head + m) (doubted t.streams)) (sized q))

    doubt-laid : is_eodc head ≡ false → 0 < second_of head
        → cond (is_doubtful head) (with_range R (third_of head) (third_of head + second_of head) (laid_out R (doubted t.streams))) (laid_out R (doubted t.streams)) ≡ laid_out R (doubted next)
    unfolding with_range
    doubt-laid q q₀ = go (is_doubtful head) ∙ ap (laid_out R) (sym (doubt-added ∙ doubt-joins q q₀))
      where
        go : (d : Bool) → cond d (laid_out R (join (third_of head) (third_of head + second_of head) (pairs_of (laid_out R (doubted t.streams))))) (laid_out R (doubted t.streams))
            ≡ laid_out R (cond d (join (third_of head) (third_of head + second_of head) (doubted t.streams)) (doubted t.streams))
        go true = ap (λ m. laid_out R (join (third_of head) (third_of head + second_of head) m)) (doubts-are t i)
        go false = refl

    -- there is room for it
    doubt-fits : is_eodc head ≡ false → 0 < second_of head → (is_doubtful head ≡ true → size (join (third_of head) (third_of head + second_of head) (doubted t.streams)) ≤ R) → size (add_doubt x (doubted t.streams)) ≤ R
    doubt-fits q q₀ f = rw (doubt-joins q q₀) (go (is_doubtful head) f)
      where
        go : (d : Bool) → (d ≡ true → size (join (third_of head) (third_of head + second_of head) (doubted t.streams)) ≤ R)
            → size (cond d (join (third_of head) (third_of head + second_of head) (doubted t.streams)) (doubted t.streams)) ≤ R
        go true f = f refl
        go false f = i.doubt_room

    pub accepts-claim : fault_of (descriptor_of head) ≡ 0 → is_eodc head ≡ false → 0 < second_of head → third_of head + second_of head ≤ F → overlaps (third_of head) (third_of head + second_of head) (claimed before t.streams) ≡ false
        → size (join (third_of head) (third_of head + second_of head) (claimed before t.streams)) ≤ R
        → (is_doubtful head ≡ true → size (join (third_of head) (third_of head + second_of head) (doubted t.streams)) ≤ R)
        → Follows F R before file t c (expect_payload (claim_range (world_of F R before file t) (third_of head) (third_of head + second_of head) (is_doubtful head)) c (third_of head) (payload_length head) (ends_channel head))
        (keep_bytes t c (bs ++ b ∷ []))
    unfolding world_of transfer_of claim_range with_range
    accepts-claim f₀ q q₀ q₁ q₂ q₃ q₄ =
        opens-on F R before file t c (bs ++ b ∷ []) i z k new.shape
        (kept f₀
        (λ o. omega (arith, i.apart o, shares-none (third_of head) (third_of head + second_of head) o (claimed before t.streams) q₂, claims-holds o (blocks_of t.streams) before ruled, ap (λ m. in_range (third_of head) (third_of head + m) o) (sized q)))
        (rw (joins q q₀) (join-ends (third_of head) (third_of head + second_of head) F (claimed before t.streams) q₁ i.ends)) (rw (joins q q₀) q₃) (doubt-fits q q₀ q₄) (rw (same-counts q) i.count))
        (opens_block front x around.back now then) (claim_range (world_of F R before file t) (third_of head) (third_of head + second_of head) (is_doubtful head))
        (world_is (put_is F R t c (intact (bs ++ b ∷ [])) i.proper h' (ap (λ m. get_or m 0 0) (same-counts q))) (sym same-file)
        (ap (λ m. laid_out R (join (third_of head) (third_of head + second_of head) m)) (pairs-are t i) ∙ ap (laid_out R) (sym (claims-are ∙ joins q q₀))) (doubt-laid q q₀))
        (third_of head) (payload_length head) (ends_channel head) looks
