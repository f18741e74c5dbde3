-- What a well-formed sending says of the streams that all its bytes make, and that these put into a file what is sent.
use Prim.Native.Nat.{ℕ, zero, suc, ◌+◌, ◌≤◌, ◌<◌}
use mathlib.Core.Path.{◌≡◌, refl, sym, ap, ◌∙◌, subst}
use mathlib.Core.Bool.{cond}
use mathlib.Core.List.{List, [], ◌∷◌, ◌++◌}
use native.Mathlib.Omega.{arith}
use lib.Dec.{eqb}
use lib.ListN.{length, replicate}
use Rattle.ledger.specs.Pairs.{Pairs, size, contains}
use Rattle.eblock.specs.Header.{count_limit, third_of}
use Rattle.transfer.specs.Channel.{channel_count}
use Rattle.transfer.specs.Transfer.{sum}
use Rattle.transfer.specs.Header.{is_eodc}
use Rattle.transfer.specs.Receive.{is_non_empty}
use Rattle.transfer.specs.Block.{Block, size_of, cut_by, has_ended, with_payloads}
use Rattle.transfer.specs.Tally.{Stream, intact, taken, accepted, blocks_of, counts_of, one_if, used_in, ended_in}
use Rattle.transfer.specs.Sending.{SentChannel, WellFormedBlocks, WellFormedChannels, sent_blocks, non_empty_payloads, WellFormed}
use Rattle.transfer.proofs.BlockClaims.{sum-append, hit_by, cover}
use Rattle.transfer.proofs.BlockCounts.{sum-counts, exactly-one}
use Rattle.transfer.proofs.BlockPayloads.{with_payloads-append, Bodies, bodies-append, bodies-left, with_payloads-moved}
use Rattle.transfer.proofs.TallyStreams.{stream_in, Split, split}
use Rattle.transfer.proofs.TallyInvariant.{AllSound}
use Rattle.transfer.proofs.SendingStreams.{stream_of, streams_of, number-all, intact-all, SentStream, accepted-sent_channel, each_all, Once, once-rest, alone, free, within, sum-all, used-sent_channels, ended-sent_channels, sum-sent}

-- `all` are the streams that all bytes of a sending make, n the number of channels that it is sent on
pub record Sendable (F R : ℕ) (before : Pairs) (n : ℕ) (all : List Stream) : Type 0 where
  pub number : length all ≡ channel_count
  pub clean : AllSound all
  pub some : 0 < n
  pub few : n ≤ count_limit
  pub each : (c : ℕ) → SentStream F (stream_in all c)
  pub used_most : used_in all ≤ n
  pub ended_are : ended_in all ≡ n
  pub counts_are : counts_of all ≡ n ∷ []
  pub apart : (q : ℕ) → cover q (blocks_of all) + contains q before ≤ 1
  pub room : non_empty_payloads (blocks_of all) + size before ≤ R

pub sendable : (F R : ℕ) (before : Pairs) (s : List SentChannel) → WellFormed F R before s → Sendable F R before (length s) (streams_of s)
sendable F R before s w =
    record {
      number = number-all s;
      clean = intact-all s;
      some = w.some;
      few = omega (arith, w.few);
      each = each_all F s w.each;
      used_most = omega (arith, sum-all F (λ (s : Stream). one_if (is_non_empty (taken s))) refl s w.each w.once, used-sent_channels s);
      ended_are = sum-all F (λ (s : Stream). one_if (has_ended (accepted s))) (unfold accepted cut_by has_ended in refl) s w.each w.once ∙ ended-sent_channels F s w.each;
      counts_are = exactly-one (length s) (counts_of (streams_of s)) added;
      apart = λ q. omega (arith, w.apart q, sum-sent F (hit_by q) s w.each w.once);
      room = omega (arith, w.room, sum-sent F (λ (x : Block). cond (eqb (size_of x) 0) 0 1) s w.each w.once);
    }
  where
    added : (f : ℕ → ℕ) → sum f (counts_of (streams_of s)) ≡ f (length s)
    added f =
        let only : sum f (length s ∷ []) ≡ f (length s) = unfold sum in omega arith in
        sum-counts f (blocks_of (streams_of s)) ∙ sum-sent F (λ (x : Block). cond (is_eodc x.head) (f (third_of x.head)) 0) s w.each w.once ∙ sym (sum-counts f (sent_blocks s))
        ∙ ap (sum f) w.one_count ∙ only

-- ---- the file

pub sent-bodies : (F : ℕ) (xs : List Block) → WellFormedBlocks F xs → Bodies xs
sent-bodies F [] s = tt
sent-bodies F (x ∷ xs) s = (omega (arith, s.0.whole), sent-bodies F xs s.1)

bodies-all : (F : ℕ) (ss : List Stream) → ((c : ℕ) → SentStream F (stream_in ss c)) → Bodies (blocks_of ss)
unfolding blocks_of
bodies-all F [] h = tt
bodies-all F (s ∷ ss) h = bodies-append (accepted s) (blocks_of ss) (sent-bodies F (accepted s) (h 0).each) (bodies-all F ss (λ c. h (suc c)))

no_blocks : (n : ℕ) → blocks_of (replicate n (intact [])) ≡ []
unfolding blocks_of accepted cut_by
no_blocks zero = refl
no_blocks (suc n) = no_blocks n

-- in whatever order the channels come
pub with_payloads-sent : (F : ℕ) (s : List SentChannel) (file : List ℕ) → WellFormedChannels F s → Once s → ((q : ℕ) → cover q (sent_blocks s) ≤ 1) → with_payloads (blocks_of (streams_of s)) file ≡ with_payloads (sent_blocks s) file
unfolding streams_of sent_blocks sum
with_payloads-sent F [] file l o d = ap (λ xs. with_payloads xs file) (no_blocks channel_count)
with_payloads-sent F (x ∷ s) file l o d =
    ap (λ xs. with_payloads xs file) new
    ∙ with_payloads-moved r.front x.blocks r.back file in-front (sent-bodies F x.blocks l.0.each) apart
    ∙ with_payloads-append x.blocks (r.front ++ r.back) file
    ∙ ap (λ xs. with_payloads x.blocks (with_payloads xs file)) (sym old)
    ∙ ap (with_payloads x.blocks) (with_payloads-sent F s file l.1 (once-rest x s o) rest)
    ∙ sym (with_payloads-append x.blocks (sent_blocks s) file)
  where
    r : Split (streams_of s) x.number
    r = split (streams_of s) x.number (within F x s l)

    new : blocks_of (streams_of (x ∷ s)) ≡ r.front ++ (x.blocks ++ r.back)
    new = r.then (stream_of x) ∙ ap (λ xs. r.front ++ (xs ++ r.back)) (accepted-sent_channel F x l.0)

    old : blocks_of (streams_of s) ≡ r.front ++ r.back
    old = r.now ∙ ap (λ y. r.front ++ (accepted y ++ r.back)) (free x.number s (alone x s o)) ∙ (unfold accepted cut_by in refl)

    in-front : Bodies r.front
    in-front = bodies-left r.front r.back (subst Bodies old (bodies-all F (streams_of s) (each_all F s l.1)))

    apart : (q : ℕ) → cover q (r.front ++ (x.blocks ++ r.back)) ≤ 1
    apart q = omega (arith, ap (cover q) new, sum-sent F (hit_by q) (x ∷ s) l o, d q)

    rest : (q : ℕ) → cover q (sent_blocks s) ≤ 1
    rest q = omega (arith, d q, sum-append (hit_by q) x.blocks (sent_blocks s))
