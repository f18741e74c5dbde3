-- The streams that all bytes of a sending make: each channel's, and numbers added up over all of them.
use Prim.Native.Nat.{ℕ, zero, suc, ◌≤◌, ◌<◌}
use mathlib.Core.Path.{◌≡◌, refl, sym, ap, ◌∙◌, subst}
use mathlib.Core.Bool.{Bool, true, false, cond}
use mathlib.Core.List.{List, [], ◌∷◌, ◌++◌, append-nil}
use native.Mathlib.Omega.{arith}
use native.Mathlib.Decide.{ℕ_discrete}
use borrow.Author.Tests.{eq-eqb, ne_eqb}
use lib.Dec.{eqb}
use lib.ListN.{length, set, replicate, length-set, length-replicate}
use lib.Seq.{get_or-set_same, get_or-set_other}
use Rattle.transfer.specs.Channel.{channel_count}
use Rattle.transfer.specs.Transfer.{sum}
use Rattle.transfer.specs.Receive.{is_non_empty}
use Rattle.transfer.specs.Block.{Block, block_bytes, cut_by, has_ended}
use Rattle.transfer.specs.Tally.{Stream, intact, taken, accepted, blocks_of, one_if}
use Rattle.transfer.specs.Sending.{SentChannel, WellFormedBlocks, WellFormedChannel, WellFormedChannels, sent_blocks, times_sent_on, sent_on}
use Rattle.transfer.proofs.BlockClaims.{sum-append}
use Rattle.transfer.proofs.TallyStreams.{stream_in, sum-blocks}
use Rattle.transfer.proofs.Sums.{sum-set}
use Rattle.transfer.proofs.TallyInvariant.{AllSound, intact-set}
use Rattle.transfer.proofs.TallyBegins.{intact-empty}
use Rattle.transfer.proofs.SendingBegunCut.{Ending, ends-ending, sent-ends, cut-flat}

-- the tally's streams once every byte is taken
abbrev pub stream_of : SentChannel → Stream
stream_of x = intact (block_bytes x.blocks)

unfoldable pub streams_of : List SentChannel → List Stream
streams_of [] = replicate channel_count (intact [])
streams_of (x ∷ s) = set (streams_of s) x.number (stream_of x)

pub number-all : (s : List SentChannel) → length (streams_of s) ≡ channel_count
unfolding streams_of
number-all [] = length-replicate channel_count (intact [])
number-all (x ∷ s) = length-set (streams_of s) x.number (stream_of x) ∙ number-all s

pub intact-all : (s : List SentChannel) → AllSound (streams_of s)
unfolding streams_of
intact-all [] = intact-empty channel_count
intact-all (x ∷ s) = intact-set (streams_of s) x.number (block_bytes x.blocks) (intact-all s)

-- ---- each channel

-- a stream that has taken all bytes of the blocks that are sent on its channel
pub record SentStream (F : ℕ) (s : Stream) : Type 0 where
  pub each : WellFormedBlocks F (accepted s)
  pub ends : Ending (accepted s)
  pub bytes : taken s ≡ block_bytes (accepted s)

sent-none : (F : ℕ) → SentStream F (intact [])
unfolding accepted cut_by block_bytes
sent-none F = record { each = tt; ends = tt; bytes = refl }

pub accepted-sent_channel : (F : ℕ) (x : SentChannel) → WellFormedChannel F x → accepted (stream_of x) ≡ x.blocks
unfolding accepted
accepted-sent_channel F x l = cut-flat F x.blocks l.each (ends-ending x.blocks l.ends)

sent-sent_channel : (F : ℕ) (x : SentChannel) → WellFormedChannel F x → SentStream F (stream_of x)
sent-sent_channel F x l =
    let e = accepted-sent_channel F x l in
    record { each = rw e l.each; ends = rw e (ends-ending x.blocks l.ends); bytes = rw e }

pub none-at : (n c : ℕ) → stream_in (replicate n (intact [])) c ≡ intact []
none-at zero c = refl
none-at (suc n) zero = refl
none-at (suc n) (suc c) = none-at n c

-- what holds of the old and of the new holds after a change
at_set : (P : Stream → Type 0) (ss : List Stream) (c d : ℕ) (s : Stream) → P s → P (stream_in ss d) → P (stream_in (set ss c s) d)
at_set P [] c d s p q = q
at_set P (x ∷ ss) zero zero s p q = p
at_set P (x ∷ ss) zero (suc d) s p q = q
at_set P (x ∷ ss) (suc c) zero s p q = q
at_set P (x ∷ ss) (suc c) (suc d) s p q = at_set P ss c d s p q

pub each_all : (F : ℕ) (s : List SentChannel) → WellFormedChannels F s → (c : ℕ) → SentStream F (stream_in (streams_of s) c)
unfolding streams_of
each_all F [] l c = subst (SentStream F) (sym (none-at channel_count c)) (sent-none F)
each_all F (x ∷ s) l c = at_set (SentStream F) (streams_of s) x.number c (stream_of x) (sent-sent_channel F x l.0) (each_all F s l.1 c)

-- ---- each channel once

abbrev pub Once : List SentChannel → Type 0
Once s = (c : ℕ) → times_sent_on c s ≤ 1

pub once-rest : (x : SentChannel) (s : List SentChannel) → Once (x ∷ s) → Once s
unfolding sum
once-rest x s o c = omega (arith, o c)

-- no other life is on its channel
pub alone : (x : SentChannel) (s : List SentChannel) → Once (x ∷ s) → times_sent_on x.number s ≡ 0
unfolding sum
alone x s o = omega (arith, rw (eq-eqb x.number x.number refl) at (o x.number))

-- a channel that nothing is sent on
pub free : (c : ℕ) (s : List SentChannel) → times_sent_on c s ≡ 0 → stream_in (streams_of s) c ≡ intact []
unfolding streams_of sum
free c [] h = none-at channel_count c
free c (x ∷ s) h = go (ℕ_discrete x.number c) (λ z. free c s z)
  where
    go : Dec (x.number ≡ c) → (times_sent_on c s ≡ 0 → stream_in (streams_of s) c ≡ intact []) → stream_in (set (streams_of s) x.number (stream_of x)) c ≡ intact []
    go (yes e) i = absurd (omega (arith, rw (eq-eqb x.number c e) at h))
    go (no e) i = get_or-set_other (streams_of s) x.number c (stream_of x) (intact []) (λ q. e (sym q)) ∙ i (omega (arith, h))

pub within : (F : ℕ) (x : SentChannel) (s : List SentChannel) → WellFormedChannels F (x ∷ s) → x.number < length (streams_of s)
within F x s l = omega (arith, l.0.channel, number-all s)

pub bytes-all : (F : ℕ) (s : List SentChannel) → WellFormedChannels F s → Once s → (c : ℕ) → taken (stream_in (streams_of s) c) ≡ sent_on c s
unfolding streams_of sent_on
bytes-all F [] l o c = ap taken (none-at channel_count c)
bytes-all F (x ∷ s) l o c = go (ℕ_discrete x.number c) (bytes-all F s l.1 (once-rest x s o) c)
  where
    go : Dec (x.number ≡ c) → taken (stream_in (streams_of s) c) ≡ sent_on c s
        → taken (stream_in (set (streams_of s) x.number (stream_of x)) c) ≡ cond (eqb x.number c) (block_bytes x.blocks ++ sent_on c s) (sent_on c s)
    go (yes e) i =
        let none : sent_on c s ≡ [] = sym i ∙ ap (λ d. taken (stream_in (streams_of s) d)) (sym e) ∙ ap taken (free x.number s (alone x s o)) in
        let here = get_or-set_same (streams_of s) x.number (stream_of x) (intact []) (within F x s l) in
        rw (eq-eqb x.number c e, none)
        (ap (λ d. taken (stream_in (set (streams_of s) x.number (stream_of x)) d)) (sym e) ∙ ap taken here ∙ sym (append-nil (block_bytes x.blocks)))
    go (no e) i = rw (ne_eqb x.number c e) (ap taken (get_or-set_other (streams_of s) x.number c (stream_of x) (intact []) (λ q. e (sym q))) ∙ i)

-- ---- sums

sum-none : (f : Stream → ℕ) → f (intact []) ≡ 0 → (n : ℕ) → sum f (replicate n (intact [])) ≡ 0
unfolding sum
sum-none f z zero = refl
sum-none f z (suc n) = omega (arith, z, sum-none f z n)

pub sum-all : (F : ℕ) (f : Stream → ℕ) → f (intact []) ≡ 0 → (s : List SentChannel) → WellFormedChannels F s → Once s → sum f (streams_of s) ≡ sum (λ (x : SentChannel). f (stream_of x)) s
unfolding sum streams_of
sum-all F f z [] l o = sum-none f z channel_count
sum-all F f z (x ∷ s) l o =
    omega (arith, z, ap f (free x.number s (alone x s o)), sum-set f (intact []) (streams_of s) x.number (stream_of x) (within F x s l), sum-all F f z s l.1 (once-rest x s o))

pub used-sent_channels : (s : List SentChannel) → sum (λ (x : SentChannel). one_if (is_non_empty (block_bytes x.blocks))) s ≤ length s
unfolding sum
used-sent_channels [] = omega arith
used-sent_channels (x ∷ s) = omega (arith, used-sent_channels s, most (is_non_empty (block_bytes x.blocks)))
  where
    most : (b : Bool) → one_if b ≤ 1
    most true = omega arith
    most false = omega arith

pub ended-sent_channels : (F : ℕ) (s : List SentChannel) → WellFormedChannels F s → sum (λ (x : SentChannel). one_if (has_ended (accepted (stream_of x)))) s ≡ length s
unfolding sum
ended-sent_channels F [] l = refl
ended-sent_channels F (x ∷ s) l = omega (arith, ended-sent_channels F s l.1, ap one_if (ap has_ended (accepted-sent_channel F x l.0) ∙ sent-ends F x.blocks l.0.each l.0.ends))

sum-sent_channels : (F : ℕ) (w : Block → ℕ) (s : List SentChannel) → WellFormedChannels F s → sum (λ (x : SentChannel). sum w (accepted (stream_of x))) s ≡ sum w (sent_blocks s)
unfolding sum sent_blocks
sum-sent_channels F w [] l = refl
sum-sent_channels F w (x ∷ s) l = omega (arith, ap (sum w) (accepted-sent_channel F x l.0), sum-append w x.blocks (sent_blocks s), sum-sent_channels F w s l.1)

pub sum-sent : (F : ℕ) (w : Block → ℕ) (s : List SentChannel) → WellFormedChannels F s → Once s → sum w (blocks_of (streams_of s)) ≡ sum w (sent_blocks s)
sum-sent F w s l o = sum-blocks w (streams_of s) ∙ sum-all F (λ (s : Stream). sum w (accepted s)) (unfold sum accepted cut_by in refl) s l o ∙ sum-sent_channels F w s l
