-- A byte of a well-formed sending meets no fault.
use Prim.Native.Nat.{ℕ, suc, ◌+◌, ◌≤◌, ◌<◌}
use mathlib.Core.Path.{◌≡◌, refl, sym, ap, ◌∙◌, subst}
use mathlib.Core.Logic.{◌⊎◌, inl, inr}
use mathlib.Core.Bool.{Bool, true, false, cond, ◌&&◌, not}
use mathlib.Core.List.{List, [], ◌∷◌, ◌++◌, append_assoc}
use native.Mathlib.Omega.{arith}
use native.Mathlib.Decide.{ℕ_discrete}
use borrow.Author.Tests.{lt-ltb, le-ltb, eq-eqb, ne_eqb}
use lib.Dec.{ltb, eqb}
use lib.ListN.{length, get_or}
use Rattle.ledger.specs.Pairs.{Pairs, size, in_range, contains, ObeyFrom, join, overlaps}
use Rattle.ledger.proofs.PairsOverlap.{none-shares}
use Rattle.eblock.specs.Descriptor.{fault_of}
use Rattle.eblock.specs.Header.{count_limit, descriptor_of, second_of, third_of}
use Rattle.transfer.specs.Channel.{channel_count, held_limit}
use Rattle.transfer.specs.Transfer.{sum}
use Rattle.transfer.specs.Header.{is_eodc, is_doubtful, payload_length, request_of}
use Rattle.transfer.specs.Receive.{Outcome, continues, stops, is_non_empty}
use Rattle.transfer.specs.Block.{Block, block, place_of, size_of, block_bytes, cut, partial_header, partial_header_by, has_ended}
use Rattle.transfer.specs.Tally.{Tally, Stream, intact, taken, accepted, blocks_of, counts_of, known_count, claimed, doubted, used_in, stream_at, with_stream, keep_bytes, apply_judgement, request_fault, tally_byte_after, tally_byte}
use Rattle.transfer.specs.Sending.{WellFormedBlocks}
use Rattle.transfer.proofs.BlockClaims.{hit_by, claims-ruled, claims-holds}
use Rattle.transfer.proofs.BlockCounts.{sum-counts}
use Rattle.transfer.proofs.BlockCut.{Done, cuts-header, cuts-payload}
use Rattle.transfer.proofs.ChannelBytes.{Shape, no_byte, in_header, in_payload, at_end, Proper}
use Rattle.transfer.proofs.TallyStreams.{stream_in, proper-at}
use Rattle.transfer.proofs.Judgement.{faultless}
use Rattle.transfer.proofs.TallyInvariant.{intact-at, Invariant}
use Rattle.transfer.proofs.TallyByteCases.{stream-now}
use Rattle.transfer.proofs.TallyHeader.{new, claims-are, doubt-added, sum_is, sized, joins, doubt-joins}
use Rattle.transfer.proofs.SendingBegunCut.{FirstOf, Part}
use Rattle.transfer.proofs.SendingWellFormed.{Sendable}
use Rattle.transfer.proofs.SendingBegun.{Underway, part_at, apart, room, doubt_room, counts_are, known_is, used_most, on-channel, used-below, one_more}

-- a header that has come is one that was sent
first-sent : (F : ℕ) (done : List Block) (x : Block) (ys : List Block) → WellFormedBlocks F ys → FirstOf (done ++ (x ∷ [])) ys
    → (fault_of (descriptor_of x.head) ≡ 0) × (0 < size_of x → place_of x + size_of x ≤ F)
first-sent F [] x [] s f = absurd f
first-sent F [] x (y ∷ ys) s f = rw f.0 (s.0.accepted, s.0.inside)
first-sent F (z ∷ done) x [] s f = absurd f
first-sent F (z ∷ done) x (y ∷ ys) s f = first-sent F done x ys s.1 f.1

-- the byte is taken and `next` is left; the call stops only where no byte is to come on the channel
abbrev pub Takes : Outcome Tally → Tally → List ℕ → Type 0
Takes y next m = (y ≡ continues next) ⊎ ((y ≡ stops next) × (m ≡ []))

module _ (F R : ℕ) (before : Pairs) (ruled : ObeyFrom 0 before) (n : ℕ) (all : List Stream) (sent : Sendable F R before n all) where
  module _ (t : Tally) (c b : ℕ) (m : List ℕ) (i : Invariant F R before t) (z : t.fault ≡ 0) (u : Underway F R before n all sent t.streams)
      (e : taken (stream_at t c) ++ b ∷ m ≡ taken (stream_in all c)) where
    abbrev bs : List ℕ
    bs = taken (stream_at t c)

    abbrev next : Tally
    next = with_stream t c (intact (bs ++ b ∷ []))

    k : c < channel_count
    k = on-channel F R before n all sent t.streams u c b m e

    is : stream_at t c ≡ intact bs
    is = intact-at t.streams c u.clean

    now : stream_at next c ≡ intact (bs ++ b ∷ [])
    now = stream-now t c (intact (bs ++ b ∷ [])) (omega (arith, k, u.number))

    u' : Underway F R before n all sent next.streams
    u' = one_more F R before n all sent t.streams u c b m e

    part : Part (accepted (stream_in all c)) (accepted (stream_at next c)) m
    part = part_at F R before n all sent next.streams c m u'.clean (ap (λ s. taken s ++ m) now ∙ append_assoc bs (b ∷ []) m ∙ e)

    -- ---- fault 19

    no-nineteen : (not (is_non_empty bs) && (ltb 0 (known_count t.streams) && eqb (used_in t.streams) (known_count t.streams))) ≡ false
    no-nineteen = go (is_non_empty bs) refl (known_is F R before n all sent t.streams u)
      where
        go : (v : Bool) → is_non_empty bs ≡ v → (known_count t.streams ≡ 0) ⊎ (known_count t.streams ≡ n) → (not v && (ltb 0 (known_count t.streams) && eqb (used_in t.streams) (known_count t.streams))) ≡ false
        go true v h = refl
        go false v (inl h) = rw (le-ltb 0 (known_count t.streams) (omega arith))
        go false v (inr h) =
            let less = used-below F R before n all sent t.streams u c b m e v in
            rw (lt-ltb 0 (known_count t.streams) (omega (arith, sent.some)), ne_eqb (used_in t.streams) (known_count t.streams) (λ q. omega (arith, less)))

    keeps-byte : Takes (keep_bytes t c (bs ++ b ∷ [])) next m
    unfolding keep_bytes accepted
    keeps-byte = go (has_ended (cut (bs ++ b ∷ []))) refl
      where
        go : (v : Bool) → has_ended (cut (bs ++ b ∷ [])) ≡ v → Takes (keep_bytes t c (bs ++ b ∷ [])) next m
        go true h = inr (rw h, part.ended_last (ap (λ s. has_ended (accepted s)) now ∙ h))
        go false h = inl (rw h)

    -- ---- the faults of a header

    module _ (done : List Block) (r : List ℕ) (d : Done done) (y : length r ≡ held_limit) (v : is_non_empty bs ≡ true) (g : bs ≡ block_bytes done ++ r) where
      abbrev head : List ℕ
      head = r ++ b ∷ []

      fits : (fault_of (descriptor_of head) ≡ 0) × (0 < payload_length head → third_of head + payload_length head ≤ F)
      fits =
          first-sent F done (block head []) (accepted (stream_in all c)) (sent.each c).each
          (subst (λ xs. FirstOf xs (accepted (stream_in all c))) (ap accepted now ∙ (new F R before [] ruled t c bs done r b i z k is d y v g).blocks) part.first)

      added : (w : Block → ℕ) → sum w (blocks_of next.streams) ≡ w (block head []) + sum w (blocks_of t.streams)
      added = sum_is F R before [] ruled t c bs done r b i z k is d y v g

      count_fits : is_eodc head ≡ true → (known_count t.streams ≡ 0) × (0 < third_of head) × (third_of head ≤ count_limit) × (used_in t.streams ≤ third_of head)
      unfolding sum
      count_fits q = go (counts_are F R before n all sent t.streams u) (counts_are F R before n all sent next.streams u')
        where
          one-more-count : (f : ℕ → ℕ) → sum f (counts_of next.streams) ≡ f (third_of head) + sum f (counts_of t.streams)
          one-more-count f =
              let this : cond (is_eodc head) (f (third_of head)) 0 ≡ f (third_of head) = rw q in
              omega (arith, sum-counts f (blocks_of next.streams), sum-counts f (blocks_of t.streams), added (λ (x : Block). cond (is_eodc x.head) (f (third_of x.head)) 0), this)

          ones : sum (λ x. 1) (counts_of next.streams) ≡ suc (sum (λ x. 1) (counts_of t.streams))
          ones = omega (arith, one-more-count (λ x. 1))

          go : (counts_of t.streams ≡ []) ⊎ (counts_of t.streams ≡ n ∷ []) → (counts_of next.streams ≡ []) ⊎ (counts_of next.streams ≡ n ∷ [])
              → (known_count t.streams ≡ 0) × (0 < third_of head) × (third_of head ≤ count_limit) × (used_in t.streams ≤ third_of head)
          go (inl h) (inl h') = absurd (omega (arith, rw (h, h') at ones))
          go (inr h) (inl h') = absurd (omega (arith, rw (h, h') at ones))
          go (inr h) (inr h') = absurd (omega (arith, rw (h, h') at ones))
          go (inl h) (inr h') =
              let is-n : third_of head ≡ n = omega (arith, rw (h, h') at (one-more-count (λ x. x))) in
              (ap (λ cs. get_or cs 0 0) h, omega (arith, sent.some), omega (arith, sent.few), omega (arith, used_most F R before n all sent t.streams u))

      range-fits : is_eodc head ≡ false → 0 < second_of head
          → (third_of head + second_of head ≤ F) × (overlaps (third_of head) (third_of head + second_of head) (claimed before t.streams) ≡ false)
          × (size (join (third_of head) (third_of head + second_of head) (claimed before t.streams)) ≤ R)
          × (is_doubtful head ≡ true → size (join (third_of head) (third_of head + second_of head) (doubted t.streams)) ≤ R)
      range-fits q q₀ = (
        omega (arith, size_is, fits.1 (omega (arith, size_is))),
        none-shares (third_of head) (third_of head + second_of head) 0 (claimed before t.streams) (omega arith) (claims-ruled (blocks_of t.streams) before ruled) free,
        omega (arith, room F R before n all sent next.streams u', ap size joined),
        (λ b. omega (arith, doubt_room F R before n all sent next.streams u', ap size (doubt-joined b))),
      )
        where
          size_is : payload_length head ≡ second_of head
          size_is = sized F R before [] ruled t c bs done r b i z k is d y v g q

          joined : claimed before next.streams ≡ join (third_of head) (third_of head + second_of head) (claimed before t.streams)
          joined = claims-are F R before [] ruled t c bs done r b i z k is d y v g ∙ joins F R before [] ruled t c bs done r b i z k is d y v g q q₀

          doubt-joined : is_doubtful head ≡ true → doubted next.streams ≡ join (third_of head) (third_of head + second_of head) (doubted t.streams)
          doubt-joined w =
              doubt-added F R before [] ruled t c bs done r b i z k is d y v g ∙ doubt-joins F R before [] ruled t c bs done r b i z k is d y v g q q₀
              ∙ ap (λ x. cond x (join (third_of head) (third_of head + second_of head) (doubted t.streams)) (doubted t.streams)) w

          free : (p : ℕ) → in_range (third_of head) (third_of head + second_of head) p + contains p (claimed before t.streams) ≤ 1
          free p =
              omega (arith, claims-holds p (blocks_of t.streams) before ruled, apart F R before n all sent next.streams u' p, added (hit_by p), ap (λ l. in_range (third_of head) (third_of head + l) p) size_is)

    -- the judgement of the header that the byte makes whole
    abbrev judged : ℕ
    judged = request_fault R (claimed before t.streams) (doubted t.streams) (request_of F (known_count t.streams) (used_in t.streams) (partial_header bs ++ b ∷ []))

    no-header-fault : Shape bs → length (partial_header bs) ≡ held_limit → judged ≡ 0
    unfolding partial_header_by
    no-header-fault (no_byte h) y = absurd (omega (arith, ap (λ l. length (partial_header l)) h))
    no-header-fault (in_payload done h p d l q v g) y = absurd (omega (arith, ap length (ap partial_header g ∙ (cuts-payload done h p d l (omega arith)).1)))
    no-header-fault (at_end done h p d l q x v g) y = absurd (omega (arith, ap length (ap partial_header g ∙ (cuts-payload done h p d l (omega arith)).1)))
    no-header-fault (in_header done r d l v g) y =
        let over-is : partial_header bs ≡ r = ap partial_header g ∙ (cuts-header done r d l).1 in
        let y' : length r ≡ held_limit = ap length (sym over-is) ∙ y in
        rw over-is
        (faultless F R (known_count t.streams) (used_in t.streams) (claimed before t.streams) (doubted t.streams) (r ++ b ∷ []) (fits done r d y' v g).0 (count_fits done r d y' v g) (range-fits done r d y' v g))

    -- ---- any byte

    pub takes-byte : Takes (tally_byte F R before t c b) next m
    unfolding tally_byte tally_byte_after apply_judgement
    takes-byte = rw no-nineteen (go (ℕ_discrete (length (partial_header bs)) held_limit))
      where
        go : Dec (length (partial_header bs) ≡ held_limit) → Takes (cond (eqb (length (partial_header bs)) held_limit) (apply_judgement t c (bs ++ b ∷ []) judged) (keep_bytes t c (bs ++ b ∷ []))) next m
        go (no h) = rw (ne_eqb (length (partial_header bs)) held_limit h) keeps-byte
        go (yes h) = rw (eq-eqb (length (partial_header bs)) held_limit h, no-header-fault (subst Proper is (proper-at t.streams c i.proper)) h) keeps-byte
