-- Streams that have taken a first part of what is sent on each channel: they hold no more than all bytes make.
use Prim.Native.Nat.{ℕ, ◌+◌, ◌≤◌, ◌<◌}
use mathlib.Core.Path.{◌≡◌, refl, sym, ap, ◌∙◌}
use mathlib.Core.Logic.{◌⊎◌, inl, inr}
use mathlib.Core.Bool.{Bool, true, false, cond}
use mathlib.Core.List.{List, [], ◌∷◌, ◌++◌, append_assoc}
use native.Mathlib.Omega.{arith}
use native.Mathlib.Decide.{dec_lt, ℕ_discrete}
use lib.Dec.{eqb}
use lib.ListN.{length, get_or, set, length-append, length-set, get_or-eq_default}
use lib.Seq.{get_or-set_same, get_or-set_other}
use Rattle.ledger.specs.Pairs.{Pairs, none, size, in_range, contains}
use Rattle.eblock.specs.Header.{third_of}
use Rattle.transfer.specs.Channel.{channel_count}
use Rattle.transfer.specs.Transfer.{sum}
use Rattle.transfer.specs.Header.{is_eodc, payload_length}
use Rattle.transfer.specs.Receive.{is_non_empty}
use Rattle.transfer.specs.Block.{Block, size_of, block_bytes, cut, doubtful_in, has_ended}
use Rattle.transfer.specs.Tally.{Stream, intact, taken, accepted, blocks_of, counts_of, known_count, claimed, doubted, one_if, used_in, ended_in}
use Rattle.transfer.specs.Sending.{WellFormedBlocks}
use Rattle.transfer.proofs.BlockClaims.{cover, claims-size}
use Rattle.transfer.proofs.BlockDoubts.{sum-doubtful-le}
use Rattle.transfer.proofs.BlockCounts.{sum-counts, at_most_one}
use Rattle.transfer.proofs.TallyStreams.{stream_in, sum-blocks, sum-le, sum_lt}
use Rattle.transfer.proofs.TallyInvariant.{AllSound, intact-at, intact-set}
use Rattle.transfer.proofs.TallyByteCases.{is_some-append}
use Rattle.transfer.proofs.SendingBegunCut.{Ending, sent-ends, first-sum, Part, first_part}
use Rattle.transfer.proofs.SendingWellFormed.{Sendable}

some-part : (bs m l : List ℕ) → bs ++ m ≡ l → one_if (is_non_empty bs) ≤ one_if (is_non_empty l)
some-part [] m l e = omega arith
some-part (b ∷ bs) m l e = rw (sym e) (omega arith)

module _ (F R : ℕ) (before : Pairs) (n : ℕ) (all : List Stream) (sent : Sendable F R before n all) where
  pub record Underway (ss : List Stream) : Type 0 where
    pub number : length ss ≡ channel_count
    pub clean : AllSound ss
    pub to-come : (c : ℕ) → (m : List ℕ) × (taken (stream_in ss c) ++ m ≡ taken (stream_in all c))

  pub part_at : (ss : List Stream) (c : ℕ) (m : List ℕ) → AllSound ss → taken (stream_in ss c) ++ m ≡ taken (stream_in all c) → Part (accepted (stream_in all c)) (accepted (stream_in ss c)) m
  unfolding accepted
  part_at ss c m k h =
      let a : accepted (stream_in ss c) ≡ cut (taken (stream_in ss c)) = ap accepted (intact-at ss c k) in
      rw a (first_part F (accepted (stream_in all c)) (taken (stream_in ss c)) m (length (taken (stream_in ss c))) (sent.each c).each (sent.each c).ends (h ∙ (sent.each c).bytes) (omega arith))

  module _ (ss : List Stream) (u : Underway ss) where
    same_number : length ss ≡ length all
    same_number = u.number ∙ sym sent.number

    part : (c : ℕ) → Part (accepted (stream_in all c)) (accepted (stream_in ss c)) (u.to-come c).0
    part c = part_at ss c (u.to-come c).0 u.clean (u.to-come c).1

    -- a number of each header, added up
    sum-most : (v : List ℕ → ℕ) → sum (λ (x : Block). v x.head) (blocks_of ss) ≤ sum (λ (x : Block). v x.head) (blocks_of all)
    sum-most v =
        omega (
          arith,
          sum-blocks (λ (x : Block). v x.head) ss,
          sum-blocks (λ (x : Block). v x.head) all,
          sum-le (λ (s : Stream). sum (λ (x : Block). v x.head) (accepted s)) ss all same_number (λ c. first-sum v (accepted (stream_in ss c)) (accepted (stream_in all c)) (part c).first),
        )

    pub apart : (q : ℕ) → cover q (blocks_of ss) + contains q before ≤ 1
    apart q = omega (arith, sent.apart q, sum-most (λ h. in_range (third_of h) (third_of h + payload_length h) q))

    pub room : size (claimed before ss) ≤ R
    room = omega (arith, claims-size (blocks_of ss) before, sent.room, sum-most (λ h. cond (eqb (payload_length h) 0) 0 1))

    pub doubt_room : size (doubted ss) ≤ R
    unfolding size
    doubt_room = omega (arith, claims-size (doubtful_in (blocks_of ss)) none, sum-doubtful-le (λ (x : Block). cond (eqb (size_of x) 0) 0 1) (blocks_of ss), sent.room, sum-most (λ h. cond (eqb (payload_length h) 0) 0 1))

    pub counts_are : (counts_of ss ≡ []) ⊎ (counts_of ss ≡ n ∷ [])
    unfolding sum
    counts_are =
        at_most_one n (counts_of ss)
        (λ f. omega (arith, sum-counts f (blocks_of ss), sum-most (λ h. cond (is_eodc h) (f (third_of h)) 0), sum-counts f (blocks_of all), ap (sum f) sent.counts_are))

    pub known_is : (known_count ss ≡ 0) ⊎ (known_count ss ≡ n)
    known_is = go counts_are
      where
        go : (counts_of ss ≡ []) ⊎ (counts_of ss ≡ n ∷ []) → (known_count ss ≡ 0) ⊎ (known_count ss ≡ n)
        go (inl e) = inl (ap (λ cs. get_or cs 0 0) e)
        go (inr e) = inr (ap (λ cs. get_or cs 0 0) e)

    used-each : (c : ℕ) → one_if (is_non_empty (taken (stream_in ss c))) ≤ one_if (is_non_empty (taken (stream_in all c)))
    used-each c = some-part (taken (stream_in ss c)) (u.to-come c).0 (taken (stream_in all c)) (u.to-come c).1

    pub used_most : used_in ss ≤ n
    used_most = omega (arith, sent.used_most, sum-le (λ (s : Stream). one_if (is_non_empty (taken s))) ss all same_number used-each)

    ended-each : (c : ℕ) → one_if (has_ended (accepted (stream_in ss c))) ≤ one_if (has_ended (accepted (stream_in all c)))
    ended-each c = go (has_ended (accepted (stream_in ss c))) refl
      where
        go : (b : Bool) → has_ended (accepted (stream_in ss c)) ≡ b → one_if b ≤ one_if (has_ended (accepted (stream_in all c)))
        go false e = omega arith
        go true e = omega (arith, ap one_if (sym (ap has_ended ((part c).whole ((part c).ended_last e))) ∙ e))

    -- ---- a channel with a byte to come

    module _ (c b : ℕ) (m : List ℕ) (e : taken (stream_in ss c) ++ b ∷ m ≡ taken (stream_in all c)) where
      pub on-channel : c < channel_count
      on-channel = go (dec_lt c channel_count)
        where
          go : Dec (c < channel_count) → c < channel_count
          go (yes h) = h
          go (no h) =
              let none : stream_in all c ≡ intact [] = get_or-eq_default all (intact []) {n = c} (omega (arith, sent.number)) in
              absurd (omega (arith, ap length (e ∙ ap taken none), length-append (taken (stream_in ss c)) (b ∷ m)))

      pub not-ended : has_ended (accepted (stream_in ss c)) ≡ false
      not-ended = go (has_ended (accepted (stream_in ss c))) refl
        where
          go : (v : Bool) → has_ended (accepted (stream_in ss c)) ≡ v → v ≡ false
          go false h = refl
          go true h = absurd (omega (arith, ap length ((part_at ss c (b ∷ m) u.clean e).ended_last h)))

      ends-later : has_ended (accepted (stream_in all c)) ≡ true
      ends-later = go (accepted (stream_in all c)) (sent.each c).each (sent.each c).ends (e ∙ (sent.each c).bytes)
        where
          go : (xs : List Block) → WellFormedBlocks F xs → Ending xs → taken (stream_in ss c) ++ b ∷ m ≡ block_bytes xs → has_ended xs ≡ true
          go [] s z h =
              let none : block_bytes [] ≡ [] = unfold block_bytes in refl in
              absurd (omega (arith, ap length (h ∙ none), length-append (taken (stream_in ss c)) (b ∷ m)))
          go (x ∷ xs) s z h = sent-ends F (x ∷ xs) s z

      here : c < length ss
      here = omega (arith, on-channel, u.number)

      pub ended-below : ended_in ss < n
      ended-below =
          omega (arith, sent.ended_are, sum_lt (λ (s : Stream). one_if (has_ended (accepted s))) ss all c here same_number ended-each (omega (arith, ap one_if not-ended, ap one_if ends-later)))

      pub used-below : is_non_empty (taken (stream_in ss c)) ≡ false → used_in ss < n
      used-below h =
          let some = some-part (taken (stream_in ss c) ++ b ∷ []) m (taken (stream_in all c)) (append_assoc (taken (stream_in ss c)) (b ∷ []) m ∙ e) in
          let one-there : one_if (is_non_empty (taken (stream_in ss c) ++ b ∷ [])) ≡ 1 = ap one_if (is_some-append (taken (stream_in ss c)) b) in
          omega (arith, sent.used_most, sum_lt (λ (s : Stream). one_if (is_non_empty (taken s))) ss all c here same_number used-each (omega (arith, ap one_if h, some, one-there)))

      -- with that byte
      abbrev more : Stream
      more = intact (taken (stream_in ss c) ++ b ∷ [])

      pub one_more : Underway (set ss c more)
      one_more = record { number = length-set ss c more ∙ u.number; clean = intact-set ss c (taken (stream_in ss c) ++ b ∷ []) u.clean; to-come = λ d. left d (ℕ_discrete d c) }
        where
          left : (d : ℕ) → Dec (d ≡ c) → (l : List ℕ) × (taken (stream_in (set ss c more) d) ++ l ≡ taken (stream_in all d))
          left d (yes p) = (m, rw p (rw (get_or-set_same ss c more (intact []) here) (append_assoc (taken (stream_in ss c)) (b ∷ []) m ∙ e)))
          left d (no p) = ((u.to-come d).0, rw (get_or-set_other ss c d more (intact []) p) (u.to-come d).1)
