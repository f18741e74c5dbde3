-- A complete tally is that of a well-formed sending: each channel that was used is one life, with the blocks that it took.
use Prim.Native.Nat.{ℕ, zero, suc, ◌+◌, ◌-◌, ◌≤◌, ◌<◌}
use mathlib.Core.Path.{◌≡◌, refl, sym, ap, ◌∙◌, subst}
use mathlib.Core.Bool.{Bool, true, false, cond}
use mathlib.Core.List.{List, [], ◌∷◌, ◌++◌, append-nil}
use native.Mathlib.Omega.{arith}
use native.Mathlib.Decide.{ℕ_discrete}
use borrow.Author.Tests.{eq-eqb, ne_eqb}
use lib.ListN.{length, get_or}
use Rattle.ledger.specs.Pairs.{Pairs, size, ObeyFrom}
use Rattle.ledger.proofs.PairsPlaces.{in_range-in}
use Rattle.eblock.specs.Header.{header_length, count_limit}
use Rattle.transfer.specs.Channel.{channel_count}
use Rattle.transfer.specs.Transfer.{sum}
use Rattle.transfer.specs.Header.{ends_channel, payload_length}
use Rattle.transfer.specs.Receive.{is_non_empty, is_ended}
use Rattle.transfer.specs.Block.{Block, block, place_of, size_of, block_bytes, cut, cut_by, counts_in, has_ended}
use Rattle.transfer.specs.Tally.{Tally, Stream, intact, faulted, taken, accepted, blocks_of, counts_of, claimed, one_if, used_in, ended_in}
use Rattle.transfer.specs.StateFrom.{state_from}
use Rattle.transfer.specs.AfterList.{Complete}
use Rattle.transfer.specs.Sending.{SentChannel, WellFormedBlocks, EndsAtLast, WellFormedChannels, sent_blocks, times_sent_on, non_empty_payloads, WellFormed, sent_on}
use Rattle.transfer.proofs.BlockClaims.{sum-append, hit_by, cover, claims-holds}
use Rattle.transfer.proofs.BlockCut.{Done, block_bytes-append, cuts-payload}
use Rattle.transfer.proofs.ChannelBytes.{Shape, no_byte, in_header, in_payload, at_end, kind, kind-ended, state_from-header, state_from-payload}
use Rattle.transfer.proofs.TallyStreams.{AllProper}
use Rattle.transfer.proofs.TallyInvariant.{Count, unknown, announced, AllSound, header_fault, Invariant, ended-used, ended-le}
use Rattle.transfer.proofs.BlockBytesInFile.{holds-below-end}

-- the channels, from the number c on, that have taken a byte
unfoldable pub lives_from : ℕ → List Stream → List SentChannel
lives_from c [] = []
lives_from c (s ∷ ss) = cond (is_non_empty (taken s)) (record { number = c; blocks = accepted s } ∷ lives_from (suc c) ss) (lives_from (suc c) ss)

-- ---- one channel that was never used or has ended

data Closed (s : Stream) : Type 0 where
  never : taken s ≡ [] → accepted s ≡ [] → Closed s
  at_last : (done : List Block) (h p : List ℕ) → Done done → length h ≡ header_length → length p ≡ payload_length h → ends_channel h ≡ true → is_non_empty (taken s) ≡ true
      → accepted s ≡ done ++ (block h p ∷ []) → taken s ≡ block_bytes done ++ (h ++ p) → Closed s

closed : (bs : List ℕ) → Shape bs → one_if (is_non_empty bs) ≤ one_if (has_ended (cut bs)) → Closed (intact bs)
unfolding accepted
closed bs o h = go o
  where
    ends : has_ended (cut bs) ≡ is_ended (state_from (intact bs))
    ends = unfold accepted in kind-ended (state_from (intact bs)) (accepted (intact bs)) (is_non_empty bs) (kind (intact bs) o)

    alive : is_non_empty bs ≡ true → is_ended (state_from (intact bs)) ≡ false → ⊥
    alive u v = omega (arith, h, ap one_if u, ap one_if (ends ∙ v))

    go : Shape bs → Closed (intact bs)
    go (no_byte e) = never e (rw e (unfold cut_by in refl))
    go (in_header done r d k u e) = absurd (alive u (ap is_ended (state_from-header bs done r d k u e)))
    go (in_payload done y p d k q u e) = absurd (alive u (ap is_ended (state_from-payload bs done y p d k q u e)))
    go (at_end done y p d k q z u e) = at_last done y p d k q z u (ap cut e ∙ (cuts-payload done y p d k (omega arith)).0) e

-- ---- its blocks

-- with 17 header bytes and the whole payload
abbrev AllWhole : List Block → Type 0
AllWhole [] = Unit {0}
AllWhole (x ∷ xs) = (length x.head ≡ header_length) × (length x.body ≡ size_of x) × AllWhole xs

whole-behind : (done : List Block) (x : Block) → Done done → length x.head ≡ header_length → length x.body ≡ size_of x → AllWhole (done ++ (x ∷ []))
whole-behind [] x d h k = (h, k, tt)
whole-behind (y ∷ done) x d h k = (d.0, d.1, whole-behind done x d.3 h k)

sent-blocks : (F : ℕ) (xs : List Block) → AllWhole xs → sum header_fault xs ≡ 0 → ((q : ℕ) → 0 < cover q xs → q < F) → WellFormedBlocks F xs
unfolding sum
sent-blocks F [] w z b = tt
sent-blocks F (x ∷ xs) w z b = (
  record {
    seventeen = w.0;
    accepted = omega (arith, z);
    whole = w.1;
    inside = λ h. let last = place_of x + size_of x - 1 in omega (arith, b last (omega (arith, in_range-in (place_of x) (place_of x + size_of x) last (omega arith) (omega arith))));
  },
  sent-blocks F xs w.2 (omega (arith, z)) (λ q h. b q (omega (arith, h))),
)

pub ends_last : (done : List Block) (x : Block) → Done done → ends_channel x.head ≡ true → EndsAtLast (done ++ (x ∷ []))
ends_last [] x d z = z
ends_last (y ∷ []) x d z = (d.2, z)
ends_last (y ∷ v ∷ done) x d z = (d.2, ends_last (v ∷ done) x d.3 z)

-- ---- all channels

abbrev AllClosed : List Stream → Type 0
AllClosed [] = Unit {0}
AllClosed (s ∷ ss) = Closed s × AllClosed ss

all_closed : (ss : List Stream) → AllProper ss → AllSound ss → used_in ss ≤ ended_in ss → AllClosed ss
unfolding sum
all_closed [] a b h = tt
all_closed (intact bs ∷ ss) a b h = (
  closed bs a.0 (unfold accepted in omega (arith, h, ended-le ss a.1)),
  all_closed ss a.1 b.1 (omega (arith, h, ended-used (intact bs) a.0)),
)
all_closed (faulted bs ∷ ss) a b h = absurd (differ b.0)
  where
    number : Stream → ℕ
    number (intact x) = 0
    number (faulted x) = 1

    differ : faulted bs ≡ intact bs → ⊥
    differ e = let z : ◌≡◌ {A = ℕ} 1 0 = ap number e in omega (arith, z)

sent_channels-blocks : (c : ℕ) (ss : List Stream) → AllClosed ss → sent_blocks (lives_from c ss) ≡ blocks_of ss
unfolding sent_blocks lives_from blocks_of
sent_channels-blocks c [] a = refl
sent_channels-blocks c (s ∷ ss) a = go a.0 (sent_channels-blocks (suc c) ss a.1)
  where
    go : Closed s → sent_blocks (lives_from (suc c) ss) ≡ blocks_of ss
        → sent_blocks (cond (is_non_empty (taken s)) (record { number = c; blocks = accepted s } ∷ lives_from (suc c) ss) (lives_from (suc c) ss)) ≡ accepted s ++ blocks_of ss
    go (never e f) i = rw (e, f) i
    go (at_last done h p d k q z u f e) i = rw u (ap (λ r. accepted s ++ r) i)

sent_channels-length : (c : ℕ) (ss : List Stream) → length (lives_from c ss) ≡ used_in ss
unfolding lives_from sum
sent_channels-length c [] = refl
sent_channels-length c (s ∷ ss) = go (is_non_empty (taken s)) (sent_channels-length (suc c) ss)
  where
    go : (b : Bool) → length (lives_from (suc c) ss) ≡ used_in ss → length (cond b (record { number = c; blocks = accepted s } ∷ lives_from (suc c) ss) (lives_from (suc c) ss)) ≡ one_if b + used_in ss
    go true i = omega (arith, i)
    go false i = omega (arith, i)

-- numbers ascend
sent_channels-before : (d c : ℕ) (ss : List Stream) → d < c → times_sent_on d (lives_from c ss) ≡ 0
unfolding lives_from sum
sent_channels-before d c [] h = refl
sent_channels-before d c (s ∷ ss) h = go (is_non_empty (taken s)) (sent_channels-before d (suc c) ss (omega arith))
  where
    go : (b : Bool) → times_sent_on d (lives_from (suc c) ss) ≡ 0 → times_sent_on d (cond b (record { number = c; blocks = accepted s } ∷ lives_from (suc c) ss) (lives_from (suc c) ss)) ≡ 0
    go true i = rw (ne_eqb c d (λ e. omega arith)) (omega (arith, i))
    go false i = i

sent_channels-once : (d c : ℕ) (ss : List Stream) → times_sent_on d (lives_from c ss) ≤ 1
unfolding lives_from sum
sent_channels-once d c [] = omega arith
sent_channels-once d c (s ∷ ss) = go (is_non_empty (taken s)) (ℕ_discrete c d) (sent_channels-once d (suc c) ss)
  where
    go : (b : Bool) → Dec (c ≡ d) → times_sent_on d (lives_from (suc c) ss) ≤ 1 → times_sent_on d (cond b (record { number = c; blocks = accepted s } ∷ lives_from (suc c) ss) (lives_from (suc c) ss)) ≤ 1
    go true (yes e) i = rw (eq-eqb c d e) (omega (arith, sent_channels-before d (suc c) ss (omega arith)))
    go true (no e) i = rw (ne_eqb c d e) (omega (arith, i))
    go false e i = i

sent_channels-sent : (F c : ℕ) (ss : List Stream) → AllClosed ss → c + length ss ≤ channel_count → sum header_fault (blocks_of ss) ≡ 0 → ((q : ℕ) → 0 < cover q (blocks_of ss) → q < F) → WellFormedChannels F (lives_from c ss)
unfolding lives_from blocks_of
sent_channels-sent F c [] a h z b = tt
sent_channels-sent F c (s ∷ ss) a h z b =
    go a.0
    (sent_channels-sent F (suc c) ss a.1 (omega arith) (omega (arith, z, sum-append header_fault (accepted s) (blocks_of ss))) (λ q k. b q (omega (arith, k, sum-append (hit_by q) (accepted s) (blocks_of ss)))))
  where
    go : Closed s → WellFormedChannels F (lives_from (suc c) ss) → WellFormedChannels F (cond (is_non_empty (taken s)) (record { number = c; blocks = accepted s } ∷ lives_from (suc c) ss) (lives_from (suc c) ss))
    go (never e f) i = rw e i
    go (at_last done y p d k q v u f e) i =
        rw u (
          record {
            channel = omega arith;
            each =
                sent-blocks F (accepted s) (subst AllWhole (sym f) (whole-behind done (block y p) d k q)) (omega (arith, z, sum-append header_fault (accepted s) (blocks_of ss)))
                (λ o m. b o (omega (arith, m, sum-append (hit_by o) (accepted s) (blocks_of ss))));
            ends = subst EndsAtLast (sym f) (ends_last done (block y p) d v);
          },
          i,
        )

bytes-before : (d c : ℕ) (ss : List Stream) → d < c → sent_on d (lives_from c ss) ≡ []
unfolding lives_from sent_on
bytes-before d c [] h = refl
bytes-before d c (s ∷ ss) h = go (is_non_empty (taken s)) (bytes-before d (suc c) ss (omega arith))
  where
    go : (b : Bool) → sent_on d (lives_from (suc c) ss) ≡ [] → sent_on d (cond b (record { number = c; blocks = accepted s } ∷ lives_from (suc c) ss) (lives_from (suc c) ss)) ≡ []
    go true i = rw (ne_eqb c d (λ e. omega arith)) i
    go false i = i

sent_channels-bytes : (d c : ℕ) (ss : List Stream) → AllClosed ss → sent_on (c + d) (lives_from c ss) ≡ taken (get_or ss d (intact []))
unfolding lives_from sent_on
sent_channels-bytes d c [] a = refl
sent_channels-bytes zero c (s ∷ ss) a = go a.0
  where
    behind : sent_on (c + 0) (lives_from (suc c) ss) ≡ []
    behind = bytes-before (c + 0) (suc c) ss (omega arith)

    go : Closed s → sent_on (c + 0) (cond (is_non_empty (taken s)) (record { number = c; blocks = accepted s } ∷ lives_from (suc c) ss) (lives_from (suc c) ss)) ≡ taken s
    go (never e f) = rw e behind
    go (at_last done y p d k q v u f e) =
        rw (u, eq-eqb c (c + 0) (omega arith), behind) (append-nil (block_bytes (accepted s)) ∙ ap block_bytes f ∙ block_bytes-append done (block y p ∷ []) ∙ ap (λ r. block_bytes done ++ r) one_block ∙ sym e)
      where
        one_block : block_bytes (block y p ∷ []) ≡ y ++ p
        one_block = unfold block_bytes in ap (λ r. y ++ r) (append-nil p)
sent_channels-bytes (suc d) c (s ∷ ss) a = go (is_non_empty (taken s)) (sent_channels-bytes d (suc c) ss a.1)
  where
    go : (b : Bool) → sent_on (suc c + d) (lives_from (suc c) ss) ≡ taken (get_or ss d (intact []))
        → sent_on (c + suc d) (cond b (record { number = c; blocks = accepted s } ∷ lives_from (suc c) ss) (lives_from (suc c) ss)) ≡ taken (get_or ss d (intact []))
    go true i = let e : c + suc d ≡ suc c + d = omega arith in rw (ne_eqb c (c + suc d) (λ z. omega arith)) (ap (λ q. sent_on q (lives_from (suc c) ss)) e ∙ i)
    go false i = let e : c + suc d ≡ suc c + d = omega arith in rw e i

-- ---- a complete tally

module _ (F R : ℕ) (before : Pairs) (ruled : ObeyFrom 0 before) (t : Tally) (i : Invariant F R before t) (z : t.fault ≡ 0) (whole : Complete t) where
  abbrev pub lived : List SentChannel
  lived = lives_from 0 t.streams

  -- as many have ended as are announced, and no more are used
  used-is : Count (counts_of t.streams) (used_in t.streams) → (used_in t.streams ≡ whole.0) × (0 < whole.0) × (whole.0 ≤ count_limit)
  used-is (unknown e) = let y : ◌≡◌ {A = ℕ} 0 1 = ap length (sym e ∙ whole.1) in absurd (omega (arith, y))
  used-is (announced n e e₀ e₁ e₂) =
      let same : n ≡ whole.0 = ap (λ cs. get_or cs 0 0) (sym e ∙ whole.1) in
      (omega (arith, same, whole.2, ended-le t.streams i.proper), omega (arith, same), omega (arith, same))

  counted : (used_in t.streams ≡ whole.0) × (0 < whole.0) × (whole.0 ≤ count_limit)
  counted = used-is i.count

  all-ended : AllClosed t.streams
  all-ended = all_closed t.streams i.proper (i.clean z) (omega (arith, counted.0, whole.2))

  below : (q : ℕ) → 0 < cover q (blocks_of t.streams) → q < F
  below q h = holds-below-end F q (claimed before t.streams) i.ends (omega (arith, claims-holds q (blocks_of t.streams) before ruled, h))

  pub lived-bytes : (c : ℕ) → sent_on c lived ≡ taken (get_or t.streams c (intact []))
  lived-bytes c = let e : 0 + c ≡ c = omega arith in ap (λ d. sent_on d lived) (sym e) ∙ sent_channels-bytes c 0 t.streams all-ended

  pub lived-well : (r : ℕ) → non_empty_payloads (sent_blocks lived) + size before ≤ r → WellFormed F r before lived
  lived-well r h =
      record {
        some = omega (arith, sent_channels-length 0 t.streams, counted.0, counted.1);
        few = omega (arith, sent_channels-length 0 t.streams, counted.0, counted.2);
        once = λ c. sent_channels-once c 0 t.streams;
        each = sent_channels-sent F 0 t.streams all-ended (omega (arith, i.number)) i.headers below;
        one_count = ap counts_in (sent_channels-blocks 0 t.streams all-ended) ∙ whole.1 ∙ ap {B = List ℕ} (λ n. n ∷ []) (sym (sent_channels-length 0 t.streams ∙ counted.0));
        apart = λ p. rw (sent_channels-blocks 0 t.streams all-ended) (i.apart p);
        room = h;
      }
