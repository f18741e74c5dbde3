-- One call on a sender that calls give: it leaves such a sender, and what it writes on a channel are the bytes of the channel's next block.
use Prim.Native.Nat.{ℕ, ◌+◌, ◌≤◌, ◌<◌}
use mathlib.Core.Path.{◌≡◌, refl, sym, ◌∙◌}
use mathlib.Core.Logic.{◌⊎◌, inl, inr}
use mathlib.Core.Bool.{Bool, true, false, cond}
use mathlib.Core.List.{List, [], ◌++◌, append-nil}
use native.Mathlib.Omega.{arith}
use native.Mathlib.Decide.{dec_lt, ℕ_discrete}
use native.Mathlib.Nat.{zero-add}
use native.Mathlib.Numerals.{add-one}
use lib.Dec.{eqb}
use lib.ListN.{length, take, drop, length-set}
use lib.Seq.{get_or-set_same, get_or-set_other, take-append_seam}
use borrow.Author.Tests.{eq-eqb, ne_eqb}
use Rattle.answers.specs.Written.{written_bytes}
use Rattle.answers.proofs.WrittenBy.{first-zero}
use Rattle.sender.specs.declared.state.Sender.{Sender}
use Rattle.sender.specs.Blocks.{block_on}
use Rattle.sender.specs.Sender.{given_on, most_on, calls_can_give, NextCall, bytes_of, next_bytes, call_refusal, next_refusal, next_after, moved_on, sender_after}
use Rattle.sender.specs.SenderRows.{InRange, Matches, blocks_for}
use Rattle.sender.specs.Calls.{wrote_on}
use Rattle.sender.proofs.BeginRange.{within-range}
use Rattle.sender.proofs.AtMost.{all-at-most, tested}
use Rattle.sender.proofs.Judged.{range-of, most-for, accepted}
use Rattle.sender.proofs.ChannelRun.{bytes_on, bytes_next}
use Rattle.sender.proofs.Answered.{refuses, writes}

-- a sender that calls give, for this file length, count and size
pub record Handed (len count size : ℕ) (s : Sender) : Type 0 where
  pub len_is : s.len ≡ len
  pub count_is : s.count ≡ count
  pub size_is : s.size ≡ size
  pub numbers : length s.given ≡ 64
  pub range : InRange count size
  pub at_most : (c : ℕ) → given_on s c ≤ most_on len count size c

-- ---- the test

pub test-holds : (len count size : ℕ) (s : Sender) → Handed len count size s → calls_can_give s ≡ true
unfolding calls_can_give
test-holds len count size s h =
    rw (h.len_is, h.count_is, h.size_is, within-range count size h.range) (all-at-most (most_on len count size) 0 s.given (λ c. rw (zero-add c) (h.at_most c)))

pub handed : (s : Sender) → length s.given ≡ 64 → calls_can_give s ≡ true → Handed s.len s.count s.size s
handed s n e =
    let t = tested s e in
    record {
      len_is = refl;
      count_is = refl;
      size_is = refl;
      numbers = n;
      range = range-of s.count s.size t.0;
      at_most = t.1;
    }

-- ---- one call

-- it is refused, or it writes the next block
abbrev pub Goes : Sender → NextCall → Type 0
Goes s k = (0 < next_refusal s k) ⊎ ((next_refusal s k ≡ 0) × Matches s k × (k.channel < k.count) × (given_on s k.channel ≤ blocks_for k))

pub goes : (s : Sender) (k : NextCall) → Goes s k
unfolding next_refusal
goes s k = by (dec_lt 0 (next_refusal s k))
  where
    by : Dec (0 < next_refusal s k) → Goes s k
    by (yes h) = inl h
    by (no h) =
        let z : next_refusal s k ≡ 0 = omega (arith, h) in
        let a = accepted s k (first-zero (call_refusal s k) _ z).0 in
        inr (z, a.0, a.1, a.2)

-- how many blocks a channel has been given where the channel d is given one more
pub given-same : (s : Sender) (d : ℕ) → d < length s.given → given_on (moved_on s d) d ≡ given_on s d + 1
unfolding moved_on
given-same s d h = get_or-set_same s.given d (given_on s d + 1) 0 h

pub given-other : (s : Sender) (d c : ℕ) → (c ≡ d → ⊥) → given_on (moved_on s d) c ≡ given_on s c
unfolding moved_on
given-other s d c n = get_or-set_other s.given d c (given_on s d + 1) 0 n

module _ (len count size : ℕ) (s : Sender) (k : NextCall) (h : Handed len count size s) where
  -- it leaves a sender that calls give
  moved : Matches s k → k.channel < k.count → given_on s k.channel ≤ blocks_for k → Handed len count size (moved_on s k.channel)
  unfolding moved_on
  moved o l g =
      record {
        len_is = h.len_is;
        count_is = h.count_is;
        size_is = h.size_is;
        numbers = length-set s.given k.channel _ ∙ h.numbers;
        range = h.range;
        at_most = λ c. by c (ℕ_discrete c k.channel);
      }
    where
      most : most_on len count size k.channel ≡ blocks_for k + 1
      most = rw (← h.len_is, ← h.count_is, ← h.size_is) (most-for s k o l)

      by : (c : ℕ) → Dec (c ≡ k.channel) → given_on (moved_on s k.channel) c ≤ most_on len count size c
      by c (yes e) = rw e (omega (arith, most, given-same s k.channel (omega (arith, h.numbers, h.range, h.count_is, o.count))))
      by c (no n) = omega (arith, given-other s k.channel c n, h.at_most c)

  pub kept : Handed len count size (sender_after s k)
  kept = by (goes s k)
    where
      by : Goes s k → Handed len count size (sender_after s k)
      by (inl r) = rw (← (refuses s k (next_refusal s k) refl r).1) h
      by (inr (z, o, l, g)) = rw (← (writes s k z).1) (moved o l g)

-- ---- what it writes

-- nothing where it is refused, else the bytes of the block, on the channel that it names
nothing-wrote : (c : ℕ) (s : Sender) (k : NextCall) → 0 < next_refusal s k → wrote_on c s k ≡ []
unfolding wrote_on written_bytes
nothing-wrote c s k r = rw (← (refuses s k (next_refusal s k) refl r).0) (by (eqb k.channel c))
  where
    by : (b : Bool) → cond b (take 0 (next_after s k)) [] ≡ []
    by true = refl
    by false = refl

wrote : (c : ℕ) (s : Sender) (k : NextCall) → next_refusal s k ≡ 0 → wrote_on c s k ≡ cond (eqb k.channel c) (next_bytes s k) []
unfolding wrote_on written_bytes
wrote c s k z =
    let w = writes s k z in
    rw (← w.0, ← w.2, take-append_seam (next_bytes s k) (drop (length (next_bytes s k)) k.out))

-- on a channel from the count on nothing
pub not-above : (len count size : ℕ) (s : Sender) (k : NextCall) → Handed len count size s → (c : ℕ) → count ≤ c → wrote_on c s k ≡ []
not-above len count size s k h c l = by (goes s k)
  where
    by : Goes s k → wrote_on c s k ≡ []
    by (inl r) = nothing-wrote c s k r
    by (inr (z, o, m, g)) = wrote c s k z ∙ rw (ne_eqb k.channel c (λ e. omega (arith, e, o.count, h.count_is)))

module _ (file : List ℕ) (count size : ℕ) (s : Sender) (k : NextCall) (h : Handed (length file) count size s) where
  -- below it the bytes of the channel's next block, where the file is lent unchanged
  pub sent-next : (length k.file ≡ length file → k.file ≡ file) → (c : ℕ) → c < count
      → bytes_on file count size c (given_on s c) ++ wrote_on c s k ≡ bytes_on file count size c (given_on (sender_after s k) c)
  unfolding next_bytes bytes_of
  sent-next lends c l = by (goes s k)
    where
      by : Goes s k → bytes_on file count size c (given_on s c) ++ wrote_on c s k ≡ bytes_on file count size c (given_on (sender_after s k) c)
      by (inl r) = rw (nothing-wrote c s k r, ← (refuses s k (next_refusal s k) refl r).1) (append-nil _)
      by (inr (z, o, m, g)) = rw (wrote c s k z, ← (writes s k z).1) (on (ℕ_discrete c k.channel))
        where
          same : next_bytes s k ≡ (block_on file count size k.channel (given_on s k.channel)).head ++ (block_on file count size k.channel (given_on s k.channel)).body
          same = rw (lends (o.file ∙ h.len_is), o.count ∙ h.count_is, o.size ∙ h.size_is)

          on : Dec (c ≡ k.channel) → bytes_on file count size c (given_on s c) ++ cond (eqb k.channel c) (next_bytes s k) [] ≡ bytes_on file count size c (given_on (moved_on s k.channel) c)
          on (yes e) =
              rw (e, eq-eqb k.channel k.channel refl, given-same s k.channel (omega (arith, h.numbers, h.range, h.count_is, o.count, m)), add-one (given_on s k.channel), same)
              (sym (bytes_next file count size k.channel (given_on s k.channel)))
          on (no n) = rw (ne_eqb k.channel c (λ e. n (sym e)), given-other s k.channel c n) (append-nil _)
