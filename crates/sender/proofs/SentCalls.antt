-- Lists of calls: what all of them wrote on a channel are the bytes of as many of its blocks as it has been given.
use Prim.Native.Nat.{ℕ, zero, suc, ◌+◌, ◌≤◌, ◌<◌}
use mathlib.Core.Path.{◌≡◌, refl, sym, ap, ◌∙◌}
use mathlib.Core.Logic.{◌⊎◌, inl, inr, ◌≢◌}
use mathlib.Core.List.{List, [], ◌∷◌, ◌++◌, append_assoc, append-nil}
use native.Mathlib.Omega.{arith}
use native.Mathlib.Decide.{dec_lt, dec_le}
use lib.ListN.{length, get_or, replicate, length-replicate}
use borrow.Author.Tests.{lt-ltb, le-ltb}
use Rattle.answers.specs.Refusal.{number_in}
use Rattle.transfer.specs.Block.{block_bytes}
use Rattle.transfer.specs.Sending.{sent_on}
use Rattle.sender.specs.declared.state.Sender.{Sender}
use Rattle.sender.specs.Blocks.{block_count, channel_blocks, sending, blocks_on}
use Rattle.sender.specs.Sender.{given_on, begun, begin_refusal, begin_of, NextCall, next_call, next_of, sender_after}
use Rattle.sender.specs.SenderRows.{Matches, next_block}
use Rattle.sender.specs.Calls.{after_calls, written_on, EachLends}
use Rattle.sender.specs.Sends.{number_for, SendsOn, EndingsSent, Sends}
use Rattle.sender.proofs.BeginRange.{in-range, within-range}
use Rattle.sender.proofs.AtMost.{most-below}
use Rattle.sender.proofs.ChannelRun.{first_on, bytes_on, run_is, first_on-front, first_on-longer}
use Rattle.sender.proofs.SenderRows.{rows}
use Rattle.sender.proofs.SenderSteps.{Handed, test-holds, kept, not-above, sent-next}
use Rattle.sender.proofs.SentFile.{on-channel}

-- ---- the beginning

pub zeros : (n c : ℕ) → get_or {A = ℕ} (replicate n 0) c 0 ≡ 0
zeros zero c = refl
zeros (suc n) zero = refl
zeros (suc n) (suc c) = zeros n c

module _ (len count size : ℕ) (e : begin_refusal count size ≡ 0) where
  pub begin-is : begin_of len count size ≡ begun len count size
  unfolding begin_of
  begin-is = rw (within-range count size (in-range count size e))

  pub none-given : (c : ℕ) → given_on (begin_of len count size) c ≡ 0
  unfolding begun
  none-given c = rw begin-is (zeros 64 c)

  pub handed-begin : Handed len count size (begin_of len count size)
  unfolding begun
  handed-begin =
      rw begin-is
      (record {
        len_is = refl;
        count_is = refl;
        size_is = refl;
        numbers = length-replicate {A = ℕ} 64 0;
        range = in-range count size e;
        at_most = λ c. omega (arith, zeros 64 c);
      })

-- ---- a list

pub handed-after : (len count size : ℕ) (s : Sender) → Handed len count size s → (ks : List NextCall) → Handed len count size (after_calls s ks)
unfolding after_calls
handed-after len count size s h [] = h
handed-after len count size s h (k ∷ ks) = handed-after len count size (sender_after s k) (kept len count size s k h) ks

pub none_above : (len count size : ℕ) (s : Sender) → Handed len count size s → (ks : List NextCall) (c : ℕ) → count ≤ c → written_on c s ks ≡ []
unfolding written_on
none_above len count size s h [] c l = refl
none_above len count size s h (k ∷ ks) c l = rw (not-above len count size s k h c l) (none_above len count size (sender_after s k) (kept len count size s k h) ks c l)

sent-list : (file : List ℕ) (count size : ℕ) (s : Sender) → Handed (length file) count size s → (ks : List NextCall) → EachLends file ks → (c : ℕ) → c < count
    → bytes_on file count size c (given_on s c) ++ written_on c s ks ≡ bytes_on file count size c (given_on (after_calls s ks) c)
unfolding after_calls written_on
sent-list file count size s h [] lends c l = append-nil _
sent-list file count size s h (k ∷ ks) lends c l =
    sym (append_assoc (bytes_on file count size c (given_on s c)) _ _)
    ∙ ap (λ bs. bs ++ written_on c (sender_after s k) ks) (sent-next file count size s k h lends.0 c l)
    ∙ sent-list file count size (sender_after s k) (kept (length file) count size s k h) ks lends.1 c l

-- ---- the next answer

module _ (file : List ℕ) (count size : ℕ) (s : Sender) (h : Handed (length file) count size s) (c : ℕ) (l : c < count) where
  abbrev share : ℕ
  share = blocks_on (block_count (length file) size) count c

  pub given-most : given_on s c ≤ share + 1
  given-most = omega (arith, h.at_most c, most-below (length file) count size c l)

  pub matches : (out : List ℕ) → Matches s (next_call c count size file out)
  matches out = record { range = h.range; count = sym h.count_is; size = sym h.size_is; file = sym h.len_is; given = test-holds (length file) count size s h }

  as-begun : (out : List ℕ) → number_for s file c out ≡ number_in (next_of s (next_call c count size file out))
  as-begun out = ap (λ n. number_in (next_of s (next_call c n s.size file out))) h.count_is ∙ ap (λ n. number_in (next_of s (next_call c count n file out))) h.size_is

  -- 74 exactly where the channel has been given its blocks and its ending
  pub answers-74 : given_on s c ≡ share + 1 → (out : List ℕ) → number_for s file c out ≡ 74
  answers-74 e out = as-begun out ∙ (rows.row_74 s (next_call c count size file out) (matches out) l e).answer.number

  pub given-all : (out : List ℕ) → number_for s file c out ≡ 74 → given_on s c ≡ share + 1
  given-all out e = by (dec_le (given_on s c) share) (dec_lt (length out) (17 + length (next_block s k).body))
    where
      k : NextCall
      k = next_call c count size file out

      answer : number_in (next_of s k) ≡ 74
      answer = sym (as-begun out) ∙ e

      by : Dec (given_on s c ≤ share) → Dec (length out < 17 + length (next_block s k).body) → given_on s c ≡ share + 1
      by (no n) d = omega (arith, n, given-most)
      by (yes m) (yes short) = absurd (omega (arith, answer, (rows.row_55 s k (matches out) l m short).answer.number))
      by (yes m) (no n) = absurd (omega (arith, answer, (rows.row_written s k (matches out) l m (omega (arith, n))).0.number))

-- ---- what a list sends from an accepted beginning

module _ (file : List ℕ) (count size : ℕ) (e : begin_refusal count size ≡ 0) (ks : List NextCall) (lends : EachLends file ks) where
  abbrev last : Sender
  last = after_calls (begin_of (length file) count size) ks

  handed-last : Handed (length file) count size last
  handed-last = handed-after (length file) count size _ (handed-begin (length file) count size e) ks

  module _ (c : ℕ) (l : c < count) where
    written_is : written_on c (begin_of (length file) count size) ks ≡ bytes_on file count size c (given_on last c)
    unfolding first_on block_bytes
    written_is = rw (none-given (length file) count size e c) at (sent-list file count size _ (handed-begin (length file) count size e) ks lends c l)

    all-is : bytes_on file count size c (blocks_on (block_count (length file) size) count c + 1) ≡ block_bytes (channel_blocks file count size c)
    all-is = ap block_bytes (run_is file count size c l)

    pub sends-on : SendsOn file count size ks c
    sends-on =
        record {
          front = rw (written_is, ← all-is) (first_on-front file count size c _ _ (given-most file count size last handed-last c l));
          all_where_74 = λ out n. rw (written_is, given-all file count size last handed-last c l out n) all-is;
          all_gives_74 = λ a. answers-74 file count size last handed-last c l (all-given a);
        }
      where
        all-given : written_on c (begin_of (length file) count size) ks ≡ block_bytes (channel_blocks file count size c) → given_on last c ≡ blocks_on (block_count (length file) size) count c + 1
        all-given a = by (dec_lt (given_on last c) (blocks_on (block_count (length file) size) count c + 1))
          where
            by : Dec (given_on last c < blocks_on (block_count (length file) size) count c + 1) → given_on last c ≡ blocks_on (block_count (length file) size) count c + 1
            by (yes m) = absurd (omega (arith, first_on-longer file count size c _ _ m, ap length (sym written_is ∙ a ∙ sym all-is)))
            by (no n) = omega (arith, n, given-most file count size last handed-last c l)

  all_sent : EndingsSent last file → (c : ℕ) → written_on c (begin_of (length file) count size) ks ≡ sent_on c (sending file count size)
  all_sent ends c = by (dec_lt c count)
    where
      by : Dec (c < count) → written_on c (begin_of (length file) count size) ks ≡ sent_on c (sending file count size)
      by (yes l) =
          let ended = ends c (omega (arith, l, handed-last.count_is)) in
          rw (on-channel file count size c, lt-ltb c count l) ((sends-on c l).all_where_74 ended.0 ended.1)
      by (no n) =
          rw (on-channel file count size c, le-ltb c count (omega (arith, n)))
          (none_above (length file) count size _ (handed-begin (length file) count size e) ks c (omega (arith, n)))

any_call : (file : List ℕ) (k : NextCall) (ks : List NextCall) → (k.file ≡ file) ⊎ (length k.file ≢ length file) → EachLends file ks → EachLends file (k ∷ ks)
any_call file k ks (inl e) h = ((λ l. e), h)
any_call file k ks (inr n) h = ((λ l. absurd (n l)), h)

pub sends : Sends
sends =
    record {
      any_call = any_call;
      below_count = λ file count size e ks lends c l. sends-on file count size e ks lends c l;
      no_other = λ len count size e ks c l. none_above len count size _ (handed-begin len count size e) ks c l;
      all_sent = λ file count size e ks lends ends c. all_sent file count size e ks lends ends c;
    }
