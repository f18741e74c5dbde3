-- One more payload byte: one store in the file, and nothing else but the channel's state.
use Prim.Native.Nat.{ℕ, suc, ◌+◌, ◌-◌, ◌<◌}
use mathlib.Core.Path.{◌≡◌, refl, sym, ap, ◌∙◌, subst}
use mathlib.Core.Bool.{true}
use mathlib.Core.List.{List, [], ◌∷◌, ◌++◌, append_assoc}
use native.Mathlib.Omega.{arith}
use lib.ListN.{length, get_or, set, length-append, length-set}
use Rattle.ledger.specs.Pairs.{Pairs}
use Rattle.ledger.specs.Ledger.{laid_out}
use Rattle.eblock.specs.Header.{header_length, third_of}
use Rattle.transfer.specs.Channel.{channel_count}
use Rattle.transfer.specs.Transfer.{sum, world}
use Rattle.transfer.specs.Header.{ends_channel, payload_length}
use Rattle.transfer.specs.Receive.{store_payload_byte, is_non_empty}
use Rattle.transfer.specs.Block.{Block, block, cut, counts_in, claims_in, with_payloads, block_bytes}
use Rattle.transfer.specs.Tally.{Tally, intact, taken, accepted, blocks_of, counts_of, claimed, doubted, one_if, used_in, stream_at, with_stream, keep_bytes}
use Rattle.transfer.proofs.BlockClaims.{hit_by, cover, claims-same}
use Rattle.transfer.proofs.BlockDoubts.{doubts_in, doubts-same}
use Rattle.transfer.proofs.BlockCounts.{counts_same}
use Rattle.transfer.proofs.BlockPayloads.{Bodies, bodies-left, with_payloads-extend}
use Rattle.transfer.proofs.BlockCut.{Done, cuts-payload}
use Rattle.transfer.specs.StateFrom.{state_from}
use Rattle.transfer.proofs.TallyStreams.{proper-set, proper-bodies, Split, split}
use Rattle.transfer.proofs.TallyTransfer.{transfer_of, world_of, put_is}
use Rattle.transfer.proofs.TallyInvariant.{intact-set, Invariant, adds_byte, header_fault, used-same, sum_same}
use Rattle.transfer.proofs.TallyByteCases.{Follows, world_is, is_some-append, tip_of, Opened, opened, opens-on}

module _ (F R : ℕ) (before : Pairs) (file : List ℕ) where
  pub fills : (t : Tally) (c : ℕ) (bs : List ℕ) (done : List Block) (h p : List ℕ) (b : ℕ) → Invariant F R before t → t.fault ≡ 0 → c < channel_count → stream_at t c ≡ intact bs
      → Done done → length h ≡ header_length → length p < payload_length h → is_non_empty bs ≡ true → bs ≡ block_bytes done ++ (h ++ p)
      → Follows F R before file t c (store_payload_byte (world_of F R before file t) c (third_of h + length p) (payload_length h - length p) (ends_channel h) b) (keep_bytes t c (bs ++ b ∷ []))
  unfolding store_payload_byte world_of transfer_of accepted
  fills t c bs done h p b i z k e d y q u g =
      rw left_is
      (opens-on F R before file t c (bs ++ b ∷ []) i z k new.shape kept (adds_byte front (block h p) r.back b now then)
      (world (transfer_of F R t) (set (with_payloads (blocks_of t.streams) file) (third_of h + length p) b) (laid_out R (claimed before t.streams)) (laid_out R (doubted t.streams)))
      (world_is (put_is F R t c (intact (bs ++ b ∷ [])) i.proper h' (ap (λ cs. get_or cs 0 0) same-counts)) (sym one_store) (ap (laid_out R) (sym same-claims)) (ap (laid_out R) (sym same-doubts)))
      (suc (third_of h + length p)) (payload_length h - suc (length p)) (ends_channel h) looks)
    where
      h' : c < length t.streams
      h' = omega (arith, i.number)

      left_is : payload_length h - length p ≡ suc (payload_length h - suc (length p))
      left_is = omega arith

      longer-by : length (p ++ b ∷ []) ≡ suc (length p)
      longer-by = omega (arith, length-append p (b ∷ []))

      was : accepted (stream_at t c) ≡ done ++ (block h p ∷ [])
      was = ap accepted e ∙ ap cut g ∙ (cuts-payload done h p d y (omega arith)).0

      new : Opened (bs ++ b ∷ []) done h (p ++ b ∷ [])
      new =
          opened (bs ++ b ∷ []) done h (p ++ b ∷ []) d y (omega (arith, longer-by)) (is_some-append bs b)
          (ap (λ a. a ++ b ∷ []) g ∙ append_assoc (block_bytes done) (h ++ p) (b ∷ []) ∙ ap (λ a. block_bytes done ++ a) (append_assoc h p (b ∷ [])))

      looks : state_from (intact (bs ++ b ∷ [])) ≡ tip_of (suc (third_of h + length p)) (payload_length h - suc (length p)) (ends_channel h)
      looks =
          let a : third_of h + length (p ++ b ∷ []) ≡ suc (third_of h + length p) = omega (arith, longer-by) in
          let a' : payload_length h - length (p ++ b ∷ []) ≡ payload_length h - suc (length p) = omega (arith, longer-by) in
          new.looks ∙ rw (a, a')

      -- ---- the blocks round this one

      r : Split t.streams c
      r = split t.streams c h'

      front : List Block
      front = r.front ++ done

      regroup : (x : Block) → r.front ++ ((done ++ (x ∷ [])) ++ r.back) ≡ front ++ x ∷ r.back
      regroup x = ap (λ m. r.front ++ m) (append_assoc done (x ∷ []) r.back) ∙ sym (append_assoc r.front done (x ∷ r.back))

      now : blocks_of t.streams ≡ front ++ block h p ∷ r.back
      now = r.now ∙ ap (λ m. r.front ++ (m ++ r.back)) was ∙ regroup (block h p)

      then : blocks_of (set t.streams c (intact (bs ++ b ∷ []))) ≡ front ++ block h (p ++ b ∷ []) ∷ r.back
      then = r.then (intact (bs ++ b ∷ [])) ∙ ap (λ m. r.front ++ (m ++ r.back)) new.blocks ∙ regroup (block h (p ++ b ∷ []))

      -- ---- what the byte leaves and what it changes

      same-counts : counts_of (set t.streams c (intact (bs ++ b ∷ []))) ≡ counts_of t.streams
      same-counts = ap counts_in then ∙ counts_same front (block h (p ++ b ∷ [])) (block h p) r.back refl ∙ ap counts_in (sym now)

      same-claims : claimed before (set t.streams c (intact (bs ++ b ∷ []))) ≡ claimed before t.streams
      same-claims = ap (λ m. claims_in m before) then ∙ claims-same front (block h (p ++ b ∷ [])) (block h p) r.back before refl ∙ ap (λ m. claims_in m before) (sym now)

      same-doubts : doubted (set t.streams c (intact (bs ++ b ∷ []))) ≡ doubted t.streams
      same-doubts = ap doubts_in then ∙ doubts-same front (block h (p ++ b ∷ [])) (block h p) r.back refl ∙ ap doubts_in (sym now)

      same-cover : (o : ℕ) → cover o (blocks_of (set t.streams c (intact (bs ++ b ∷ [])))) ≡ cover o (blocks_of t.streams)
      same-cover o = ap (cover o) then ∙ sum_same (hit_by o) front (block h (p ++ b ∷ [])) (block h p) r.back refl ∙ ap (cover o) (sym now)

      one_store : with_payloads (blocks_of (set t.streams c (intact (bs ++ b ∷ [])))) file ≡ set (with_payloads (blocks_of t.streams) file) (third_of h + length p) b
      one_store =
          ap (λ m. with_payloads m file) then
          ∙ with_payloads-extend front (block h p) r.back file b (bodies-left front (block h p ∷ r.back) (subst Bodies now (proper-bodies t.streams i.proper))) q
          (λ o. omega (arith, ap (cover o) (sym now), i.apart o))
          ∙ ap (λ m. set (with_payloads m file) (third_of h + length p) b) (sym now)

      used-now : one_if (is_non_empty (taken (stream_at t c))) ≡ 1
      used-now = ap (λ s. one_if (is_non_empty (taken s))) e ∙ ap one_if u

      same-used : used_in (set t.streams c (intact (bs ++ b ∷ []))) ≡ used_in t.streams
      same-used = used-same t c (intact (bs ++ b ∷ [])) h' used-now (is_some-append bs b)

      kept : Invariant F R before (with_stream t c (intact (bs ++ b ∷ [])))
      kept =
          record {
            number = length-set t.streams c (intact (bs ++ b ∷ [])) ∙ i.number;
            proper = proper-set t.streams c (intact (bs ++ b ∷ [])) i.proper new.shape;
            clean = λ o. intact-set t.streams c (bs ++ b ∷ []) (i.clean o);
            apart = λ o. rw (same-cover o) (i.apart o);
            ends = rw same-claims i.ends;
            room = rw same-claims i.room;
            doubt_room = rw same-doubts i.doubt_room;
            count = rw (same-counts, same-used) i.count;
            fault = i.fault;
            headers = ap (sum header_fault) then ∙ sum_same header_fault front (block h (p ++ b ∷ [])) (block h p) r.back refl ∙ ap (sum header_fault) (sym now) ∙ i.headers;
          }
