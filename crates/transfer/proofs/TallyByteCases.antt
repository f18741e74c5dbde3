-- One byte: that the receiver on the world of a tally does what the tally does, and the bytes for which a channel goes on or opens.
use Prim.Native.Nat.{ℕ, zero, suc, ◌+◌, ◌-◌, ◌≤◌, ◌<◌}
use mathlib.Core.Path.{◌≡◌, refl, sym, ap, ◌∙◌}
use mathlib.Core.Bool.{Bool, true, false}
use mathlib.Core.List.{List, [], ◌∷◌, ◌++◌, append-nil}
use native.Mathlib.Omega.{arith}
use native.Mathlib.Decide.{dec_lt}
use lib.ListN.{length, set}
use lib.Seq.{get_or-set_same}
use Rattle.ledger.specs.Pairs.{Pairs}
use Rattle.eblock.specs.Header.{header_length, third_of}
use Rattle.transfer.specs.declared.state.Transfer.{Transfer}
use Rattle.transfer.specs.Channel.{channel_count, State, header, payload, ended, put_state}
use Rattle.transfer.specs.Transfer.{World, world, with_transfer}
use Rattle.transfer.specs.Header.{ends_channel, payload_length}
use Rattle.transfer.specs.Receive.{Outcome, continues, stops, not_taken, expect_payload, is_non_empty, is_ended}
use Rattle.transfer.specs.Block.{Block, block, cut, has_ended, block_bytes}
use Rattle.transfer.specs.Tally.{Tally, Stream, intact, accepted, blocks_of, counts_of, used_in, stream_at, with_stream, keep_bytes}
use Rattle.transfer.proofs.BlockCut.{Done, done-append, block_bytes-append, cuts-payload}
use Rattle.transfer.specs.StateFrom.{state_from}
use Rattle.transfer.proofs.ChannelBytes.{Shape, in_header, in_payload, at_end, Proper, kind, kind-ended, state_from-header, state_from-payload, state_from-end}
use Rattle.transfer.proofs.TallyTransfer.{transfer_of, world_of, put_is}
use Rattle.transfer.proofs.TallyInvariant.{Count, intact-set, Invariant, Grows, stays, same_blocks, kept_same}

-- the receiver's x and the tally's y are the same step from t₀: both go on, both stop, or both leave the byte
pub data Follows (F R : ℕ) (before : Pairs) (file : List ℕ) (t₀ : Tally) (c : ℕ) (x : Outcome World) (y : Outcome Tally) : Type 0 where
  both_go : (t : Tally) → y ≡ continues t → x ≡ continues (world_of F R before file t) → Invariant F R before t → Grows (blocks_of t₀.streams) (blocks_of t.streams)
      → t.fault ≡ 0 → is_ended (state_from (stream_at t c)) ≡ false → Follows F R before file t₀ c x y
  both_stop : (t : Tally) → y ≡ stops t → x ≡ stops (world_of F R before file t) → Invariant F R before t → Grows (blocks_of t₀.streams) (blocks_of t.streams)
      → Follows F R before file t₀ c x y
  both_leave : (t : Tally) → y ≡ not_taken t → x ≡ not_taken (world_of F R before file t) → Invariant F R before t → Grows (blocks_of t₀.streams) (blocks_of t.streams)
      → Follows F R before file t₀ c x y

pub world_is : {t u : Transfer} {f g l m d e : List ℕ} → t ≡ u → f ≡ g → l ≡ m → d ≡ e → world t f l d ≡ world u g m e
world_is p q r s = λ i. world (p i) (q i) (r i) (s i)

pub is_some-append : (bs : List ℕ) (b : ℕ) → is_non_empty (bs ++ b ∷ []) ≡ true
is_some-append [] b = refl
is_some-append (x ∷ bs) b = refl

-- ---- a block of which n bytes are to come from p on

abbrev pub tip_of : ℕ → ℕ → Bool → State
tip_of p zero true = ended
tip_of p zero false = header []
tip_of p (suc n) e = payload p (suc n) e

pub record Opened (bs : List ℕ) (done : List Block) (h p : List ℕ) : Type 0 where
  pub shape : Shape bs
  pub looks : state_from (intact bs) ≡ tip_of (third_of h + length p) (payload_length h - length p) (ends_channel h)
  pub blocks : accepted (intact bs) ≡ done ++ (block h p ∷ [])

pub opened : (bs : List ℕ) (done : List Block) (h p : List ℕ) → Done done → length h ≡ header_length → length p ≤ payload_length h → is_non_empty bs ≡ true → bs ≡ block_bytes done ++ (h ++ p)
    → Opened bs done h p
unfolding accepted block_bytes
opened bs done h p d k q u e = go (dec_lt (length p) (payload_length h)) (ends_channel h) refl
  where
    blocks : cut bs ≡ done ++ (block h p ∷ [])
    blocks = ap cut e ∙ (cuts-payload done h p d k q).0

    go : Dec (length p < payload_length h) → (z : Bool) → ends_channel h ≡ z → Opened bs done h p
    go (yes y) z g =
        let a : payload_length h - length p ≡ suc (payload_length h - suc (length p)) = omega arith in
        record { shape = in_payload done h p d k y u e; looks = state_from-payload bs done h p d k y u e ∙ rw a; blocks = blocks }
    go (no y) true g =
        let a : payload_length h - length p ≡ 0 = omega arith in
        record { shape = at_end done h p d k (omega arith) g u e; looks = state_from-end bs done h p d k (omega arith) g u e ∙ rw (a, g); blocks = blocks }
    go (no y) false g =
        let a : payload_length h - length p ≡ 0 = omega arith in
        let all = done ++ (block h p ∷ []) in
        let d' : Done all = done-append done (block h p ∷ []) d (k, omega arith, g, tt) in
        let e' : bs ≡ block_bytes all ++ [] = e ∙ rw (block_bytes-append done (block h p ∷ []), append-nil (block_bytes done ++ block_bytes (block h p ∷ [])), append-nil p) in
        record { shape = in_header all [] d' (omega arith) u e'; looks = state_from-header bs all [] d' (omega arith) u e' ∙ rw (a, g); blocks = blocks }

-- ---- the channel goes on

pub stream-now : (t : Tally) (c : ℕ) (s : Stream) → c < length t.streams → stream_at (with_stream t c s) c ≡ s
stream-now t c s h = get_or-set_same t.streams c s (intact []) h

-- that bytes end the channel, by its state
ends_by : (bs : List ℕ) → Proper (intact bs) → (x : State) → state_from (intact bs) ≡ x → has_ended (cut bs) ≡ is_ended x
unfolding accepted
ends_by bs o x v = kind-ended (state_from (intact bs)) (accepted (intact bs)) (is_non_empty bs) (kind (intact bs) o) ∙ ap is_ended v

module _ (F R : ℕ) (before : Pairs) (file : List ℕ) where
  -- a byte that changes no block
  pub goes_on : (t : Tally) (c : ℕ) (bs : List ℕ) → Invariant F R before t → t.fault ≡ 0 → c < channel_count → Proper (intact bs) → accepted (intact bs) ≡ accepted (stream_at t c)
      → Count (counts_of t.streams) (used_in (set t.streams c (intact bs))) → (x : State) → state_from (intact bs) ≡ x → is_ended x ≡ false
      → Follows F R before file t c (continues (with_transfer (world_of F R before file t) (put_state (transfer_of F R t) c x))) (keep_bytes t c bs)
  unfolding keep_bytes world_of
  goes_on t c bs i z h o e u x v y =
      let h' : c < length t.streams = omega (arith, i.number) in
      let b : blocks_of (set t.streams c (intact bs)) ≡ blocks_of t.streams = same_blocks t c (intact bs) h' e in
      both_go (with_stream t c (intact bs)) (rw (ends_by bs o x v ∙ y))
      (ap continues (world_is (ap (put_state (transfer_of F R t) c) (sym v) ∙ put_is F R t c (intact bs) i.proper h' (rw b)) (rw b) (rw b) (rw b)))
      (kept_same F R before t c (intact bs) i h o (λ q. intact-set t.streams c bs (i.clean q)) e u) (stays b) z
      (ap (λ s. is_ended (state_from s)) (stream-now t c (intact bs) h') ∙ ap is_ended v ∙ y)

  -- ---- a block's bytes up to here are accepted

  pub opens-on : (t : Tally) (c : ℕ) (bs : List ℕ) → Invariant F R before t → t.fault ≡ 0 → c < channel_count → Proper (intact bs) → Invariant F R before (with_stream t c (intact bs))
      → Grows (blocks_of t.streams) (blocks_of (set t.streams c (intact bs)))
      → (w : World) → with_transfer w (put_state w.t c (state_from (intact bs))) ≡ world_of F R before file (with_stream t c (intact bs))
      → (p n : ℕ) (e : Bool) → state_from (intact bs) ≡ tip_of p n e → Follows F R before file t c (expect_payload w c p n e) (keep_bytes t c bs)
  unfolding expect_payload keep_bytes
  opens-on t c bs i z h o j gr w wp x n e v = go n e v
    where
      h' : c < length t.streams
      h' = omega (arith, i.number)

      -- the state is that of a channel not ended
      on : (y : State) → state_from (intact bs) ≡ y → is_ended y ≡ false → Follows F R before file t c (continues (with_transfer w (put_state w.t c y))) (keep_bytes t c bs)
      on y v a =
          both_go (with_stream t c (intact bs)) (rw (ends_by bs o y v ∙ a)) (ap continues (ap (λ r. with_transfer w (put_state w.t c r)) (sym v) ∙ wp)) j gr z
          (ap (λ s. is_ended (state_from s)) (stream-now t c (intact bs) h') ∙ ap is_ended v ∙ a)

      go : (n : ℕ) (e : Bool) → state_from (intact bs) ≡ tip_of x n e → Follows F R before file t c (expect_payload w c x n e) (keep_bytes t c bs)
      go zero true v =
          both_stop (with_stream t c (intact bs)) (rw (ends_by bs o ended v)) (ap stops (ap (λ r. with_transfer w (put_state w.t c r)) (sym v) ∙ wp)) j gr
      go zero false v = on (header []) v refl
      go (suc n) e v = on (payload x (suc n) e) v refl
