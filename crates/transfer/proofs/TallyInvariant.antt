-- What stays true of a tally over every byte: the invariant by which the receiver follows it.
use Prim.Native.Nat.{ℕ, zero, suc, ◌+◌, ◌≤◌, ◌<◌}
use mathlib.Core.Path.{◌≡◌, refl, sym, ap, ◌∙◌}
use mathlib.Core.Bool.{Bool, true, cond}
use mathlib.Core.List.{List, [], ◌∷◌, ◌++◌}
use native.Mathlib.Omega.{arith}
use lib.Dec.{eqb}
use lib.ListN.{length, get_or, set, length-set}
use Rattle.ledger.specs.Pairs.{Pairs, size, contains, ends_at_most}
use Rattle.transfer.specs.Channel.{channel_count, State, unused, header, payload, ended, state_code}
use Rattle.transfer.specs.Transfer.{sum}
use Rattle.transfer.specs.Receive.{is_non_empty, is_ended}
use Rattle.eblock.specs.Descriptor.{fault_of}
use Rattle.eblock.specs.Header.{count_limit, descriptor_of}
use Rattle.transfer.specs.Block.{Block, has_ended}
use Rattle.transfer.specs.Tally.{Tally, Stream, intact, faulted, taken, accepted, blocks_of, counts_of, claimed, doubted, one_if, used_in, ended_in, stream_at, with_stream, tally_with_fault}
use Rattle.transfer.proofs.BlockClaims.{sum-append, cover}
use Rattle.transfer.proofs.BlockPayloads.{longer}
use Rattle.transfer.specs.StateFrom.{state_from}
use Rattle.transfer.proofs.ChannelBytes.{Proper, kind, kind-ended, kind-used}
use Rattle.transfer.proofs.TallyStreams.{AllProper, proper-set, Split, split}
use Rattle.transfer.proofs.Sums.{sum-set}

-- no count, or one that the sender may announce and that is not less than the channels used
pub data Count (cs : List ℕ) (u : ℕ) : Type 0 where
  unknown : cs ≡ [] → Count cs u
  announced : (n : ℕ) → cs ≡ n ∷ [] → 0 < n → n ≤ count_limit → u ≤ n → Count cs u

pub data Fault (k c : ℕ) : Type 0 where
  no_fault : k ≡ 0 → c ≡ 0 → Fault k c
  fault_of_is : 11 ≤ k → k ≤ 19 → c < channel_count → Fault k c

-- no stream has a fault
abbrev pub AllSound : List Stream → Type 0
AllSound [] = Unit
AllSound (s ∷ ss) = (s ≡ intact (taken s)) × AllSound ss

pub intact-at : (ss : List Stream) (c : ℕ) → AllSound ss → get_or ss c (intact []) ≡ intact (taken (get_or ss c (intact [])))
intact-at [] c a = refl
intact-at (s ∷ ss) zero a = a.0
intact-at (s ∷ ss) (suc c) a = intact-at ss c a.1

pub intact-set : (ss : List Stream) (c : ℕ) (bs : List ℕ) → AllSound ss → AllSound (set ss c (intact bs))
intact-set [] c bs a = tt
intact-set (x ∷ ss) zero bs a = (refl, a.1)
intact-set (x ∷ ss) (suc c) bs a = (a.0, intact-set ss c bs a.1)

abbrev pub header_fault : Block → ℕ
header_fault x = fault_of (descriptor_of x.head)

pub record Invariant (F R : ℕ) (before : Pairs) (t : Tally) : Type 0 where
  pub number : length t.streams ≡ channel_count
  pub proper : AllProper t.streams
  pub clean : t.fault ≡ 0 → AllSound t.streams
  -- no place is claimed twice
  pub apart : (q : ℕ) → cover q (blocks_of t.streams) + contains q before ≤ 1
  pub ends : ends_at_most F (claimed before t.streams) ≡ true
  pub room : size (claimed before t.streams) ≤ R
  pub doubt_room : size (doubted t.streams) ≤ R
  pub count : Count (counts_of t.streams) (used_in t.streams)
  pub fault : Fault t.fault t.on
  -- no accepted header has a fault of its descriptor
  pub headers : sum header_fault (blocks_of t.streams) ≡ 0

-- what a byte does to the accepted blocks
pub data Grows (a b : List Block) : Type 0 where
  stays : b ≡ a → Grows a b
  opens_block : (front : List Block) (x : Block) (back : List Block) → a ≡ front ++ back → b ≡ front ++ x ∷ back → Grows a b
  adds_byte : (front : List Block) (x : Block) (back : List Block) (v : ℕ) → a ≡ front ++ x ∷ back → b ≡ front ++ longer x v ∷ back → Grows a b

-- ---- ended channels are used ones

pub ended-used : (s : Stream) → Proper s → one_if (has_ended (accepted s)) ≤ one_if (is_non_empty (taken s))
ended-used s o = go (state_from s) (is_non_empty (taken s)) (kind-ended (state_from s) (accepted s) (is_non_empty (taken s)) (kind s o)) (kind-used (state_from s) (accepted s) (is_non_empty (taken s)) (kind s o))
  where
    go : (x : State) (u : Bool) → has_ended (accepted s) ≡ is_ended x → one_if u ≡ cond (eqb (state_code x) 0) 0 1 → one_if (has_ended (accepted s)) ≤ one_if u
    go unused u p q = rw p (omega arith)
    go (header h) u p q = rw p (omega arith)
    go (payload y n e) u p q = rw p (omega arith)
    go ended u p q = rw (p, q) (unfold state_code in omega arith)

pub ended-le : (ss : List Stream) → AllProper ss → ended_in ss ≤ used_in ss
unfolding sum
ended-le [] a = omega arith
ended-le (s ∷ ss) a = omega (arith, ended-le ss a.1, ended-used s a.0)

-- a channel that was used and is used counts the same
pub used-same : (t : Tally) (c : ℕ) (s : Stream) → c < length t.streams → one_if (is_non_empty (taken (stream_at t c))) ≡ 1 → is_non_empty (taken s) ≡ true
    → used_in (set t.streams c s) ≡ used_in t.streams
used-same t c s h p u =
    let w : one_if (is_non_empty (taken s)) ≡ 1 = ap one_if u in
    omega (arith, w, p, sum-set (λ (s : Stream). one_if (is_non_empty (taken s))) (intact []) t.streams c s h)

-- ---- sums over blocks

pub sum_same : (f : Block → ℕ) (a : List Block) (x y : Block) (b : List Block) → f x ≡ f y → sum f (a ++ x ∷ b) ≡ sum f (a ++ y ∷ b)
unfolding sum
sum_same f a x y b h = rw (sum-append f a (x ∷ b), sum-append f a (y ∷ b), h)

-- ---- kept

pub same_blocks : (t : Tally) (c : ℕ) (s : Stream) → c < length t.streams → accepted s ≡ accepted (stream_at t c) → blocks_of (set t.streams c s) ≡ blocks_of t.streams
same_blocks t c s h e =
    let r : Split t.streams c = split t.streams c h in
    r.then s ∙ ap (λ a. r.front ++ (a ++ r.back)) e ∙ sym r.now

module _ (F R : ℕ) (before : Pairs) where
  -- with a fault
  pub kept-fault : (t : Tally) (k c : ℕ) → Invariant F R before t → 11 ≤ k → k ≤ 19 → c < channel_count → Invariant F R before (tally_with_fault t k c)
  kept-fault t k c i h g q =
      record { number = i.number; proper = i.proper; clean = λ z. absurd (omega arith); apart = i.apart; ends = i.ends; room = i.room; doubt_room = i.doubt_room; count = i.count; fault = fault_of_is h g q; headers = i.headers }

  -- where a channel's bytes change and no block does
  pub kept_same : (t : Tally) (c : ℕ) (s : Stream) → Invariant F R before t → c < channel_count → Proper s → (t.fault ≡ 0 → AllSound (set t.streams c s)) → accepted s ≡ accepted (stream_at t c)
      → Count (counts_of t.streams) (used_in (set t.streams c s)) → Invariant F R before (with_stream t c s)
  kept_same t c s i h o l e u =
      let b : blocks_of (set t.streams c s) ≡ blocks_of t.streams = same_blocks t c s (omega (arith, i.number)) e in
      record {
        number = length-set t.streams c s ∙ i.number;
        proper = proper-set t.streams c s i.proper o;
        clean = l;
        apart = λ q. rw b (i.apart q);
        ends = rw b i.ends;
        room = rw b i.room;
        doubt_room = rw b i.doubt_room;
        count = rw b u;
        fault = i.fault;
        headers = rw b i.headers;
      }

  -- where a header is judged a fault
  pub kept-spoilt : (t : Tally) (c : ℕ) (bs : List ℕ) (k : ℕ) → Invariant F R before t → c < channel_count → Proper (faulted bs) → accepted (faulted bs) ≡ accepted (stream_at t c) → one_if (is_non_empty (taken (stream_at t c))) ≡ 1
      → 11 ≤ k → k ≤ 19 → Invariant F R before (tally_with_fault (with_stream t c (faulted bs)) k c)
  kept-spoilt t c bs k i h o e u g g' =
      let h' : c < length t.streams = omega (arith, i.number) in
      let b : blocks_of (set t.streams c (faulted bs)) ≡ blocks_of t.streams = same_blocks t c (faulted bs) h' e in
      let v : used_in (set t.streams c (faulted bs)) ≡ used_in t.streams = used-same t c (faulted bs) h' u o.1 in
      record {
        number = length-set t.streams c (faulted bs) ∙ i.number;
        proper = proper-set t.streams c (faulted bs) i.proper o;
        clean = λ z. absurd (omega arith);
        apart = λ q. rw b (i.apart q);
        ends = rw b i.ends;
        room = rw b i.room;
        doubt_room = rw b i.doubt_room;
        count = rw (b, v) i.count;
        fault = fault_of_is g g' h;
        headers = rw b i.headers;
      }
