-- What holds after every list of receive calls, from the run of the receiver along the tally.
use Prim.Native.Nat.{ℕ, ◌+◌, ◌≤◌, ◌<◌}
use mathlib.Core.Path.{◌≡◌, refl, sym, ap, ◌∙◌, subst}
use mathlib.Core.Logic.{◌↔◌}
use mathlib.Core.Bool.{Bool, true, false, cond, ◌&&◌, and-eq-true_iff, true≢false}
use mathlib.Core.List.{List, [], ◌∷◌, ◌++◌, map}
use native.Mathlib.Omega.{arith}
use borrow.Author.Tests.{lt-ltb, eq-eqb, ltb-true, ltb-false, eqb-true}
use lib.Dec.{ltb, eqb}
use lib.ListN.{length, get_or}
use Rattle.ledger.specs.Pairs.{Pairs, none, size, total, contains, ObeyFrom}
use Rattle.transfer.specs.Channel.{encode_state}
use Rattle.transfer.specs.Transfer.{sum, left_of, World, Verdict, guess, result, suspect, broken, verdict_of, stored_of, doubt_of}
use Rattle.transfer.specs.Receive.{is_non_empty}
use Rattle.transfer.specs.Fit.{pair_limit}
use Rattle.transfer.specs.Calls.{Call, call_of, after}
use Rattle.transfer.specs.Block.{Block, size_of, doubtful_in, bytes_in}
use Rattle.transfer.specs.Tally.{Tally, Stream, taken, accepted, blocks_of, counts_of, known_count, claimed, doubted, used_in, ended_in, tally_verdict, empty, tally_call as tally_call_of}
use Rattle.transfer.specs.AfterList.{StartedWith, tally_of, Complete, HasByte, HasDoubt, AfterList, Unchanged, EveryList}
use Rattle.transfer.proofs.Start.{every-start-begins}
use Rattle.transfer.proofs.BlockClaims.{sum-append, hit_by, cover, claims-holds, claims-total}
use Rattle.transfer.proofs.BlockDoubts.{sum-doubtful-le}
use Rattle.transfer.proofs.BlockPlaces.{by-pair}
use Rattle.transfer.proofs.BlockPayloads.{length-with_payloads}
use Rattle.transfer.specs.StateFrom.{state_from}
use Rattle.transfer.proofs.ChannelBytes.{kind, kind-left}
use Rattle.transfer.proofs.TallyStreams.{AllProper, proper-bodies}
use Rattle.transfer.proofs.TallyTransfer.{row_of, transfer_of, world_of, state_is, ended_is}
use Rattle.transfer.proofs.TallyInvariant.{Count, unknown, announced, Invariant}
use Rattle.transfer.proofs.TallyHeader.{pairs-are, doubts-are}
use Rattle.transfer.proofs.FitOfTally.{fits-always}
use Rattle.transfer.proofs.TallyCalls.{Grown, verdict-is, run}
use Rattle.transfer.proofs.BlockBytesInFile.{has-cover, has-with_payloads, none-with_payloads, holds-below-end, grown-has, grown-bytes}
use Rattle.transfer.proofs.CompleteBlocks.{whole-all, whole-stand}
use Rattle.transfer.proofs.BlockLedger.{ledger-is}
use Rattle.transfer.proofs.TallyFromStart.{along, world-along}
use Rattle.transfer.proofs.Rows.{run-append, rows}

-- ---- the verdict

-- a verdict by a fault's number k and two tests
abbrev word : ℕ → Bool → Bool → Verdict
word k b d = cond (ltb 0 k) broken (cond b (cond d suspect result) guess)

-- the words are told apart by a number
abbrev code : Verdict → ℕ
code guess = 0
code result = 1
code suspect = 2
code broken = 3

pub data Read (k : ℕ) (b d : Bool) (v : Verdict) : Type 0 where
  reads_broken : 0 < k → v ≡ broken → Read k b d v
  reads_suspect : k ≡ 0 → b ≡ true → d ≡ true → v ≡ suspect → Read k b d v
  reads_result : k ≡ 0 → b ≡ true → d ≡ false → v ≡ result → Read k b d v
  reads_guess : k ≡ 0 → b ≡ false → v ≡ guess → Read k b d v

read : (k : ℕ) (b d : Bool) → Read k b d (word k b d)
read k b d = go (ltb 0 k) b d refl refl refl
  where
    go : (x y z : Bool) → ltb 0 k ≡ x → b ≡ y → d ≡ z → Read k b d (cond x broken (cond y (cond z suspect result) guess))
    go true y z p q r = reads_broken (ltb-true 0 k p) refl
    go false true true p q r = reads_suspect (omega (arith, ltb-false 0 k p)) q r refl
    go false true false p q r = reads_result (omega (arith, ltb-false 0 k p)) q r refl
    go false false z p q r = reads_guess (omega (arith, ltb-false 0 k p)) q refl

-- one word is not another
differ : (v x y : Verdict) → v ≡ x → v ≡ y → code x < code y → ⊥
differ v x y p q h = omega (arith, ap code p, ap code q, h)

pub record Words (k : ℕ) (C D : Type 0) (v : Verdict) : Type 0 where
  pub for_broken : (v ≡ broken) ↔ (0 < k)
  pub for_suspect : (v ≡ suspect) ↔ ((k ≡ 0) × C × D)
  pub for_result : (v ≡ result) ↔ ((k ≡ 0) × C × (D → ⊥))
  pub for_guess : (v ≡ guess) ↔ ((k ≡ 0) × (C → ⊥))

-- the four sentences, where the tests say C and D
words : (k : ℕ) (b d : Bool) (v : Verdict) (C D : Type 0) → (b ≡ true) ↔ C → (d ≡ true) ↔ D → Read k b d v → Words k C D v
words k b d v C D f g (reads_broken p e) =
    record {
      for_broken = ((λ h. p), (λ h. e));
      for_suspect = ((λ h. absurd (differ v suspect broken h e (omega arith))), (λ h. absurd (omega (arith, p, h.0))));
      for_result = ((λ h. absurd (differ v result broken h e (omega arith))), (λ h. absurd (omega (arith, p, h.0))));
      for_guess = ((λ h. absurd (differ v guess broken h e (omega arith))), (λ h. absurd (omega (arith, p, h.0))));
    }
words k b d v C D f g (reads_suspect p q r e) =
    record {
      for_broken = ((λ h. absurd (differ v suspect broken e h (omega arith))), (λ h. absurd (omega (arith, p, h))));
      for_suspect = ((λ h. (p, f.0 q, g.0 r)), (λ h. e));
      for_result = ((λ h. absurd (differ v result suspect h e (omega arith))), (λ h. absurd (h.2 (g.0 r))));
      for_guess = ((λ h. absurd (differ v guess suspect h e (omega arith))), (λ h. absurd (h.1 (f.0 q))));
    }
words k b d v C D f g (reads_result p q r e) =
    record {
      for_broken = ((λ h. absurd (differ v result broken e h (omega arith))), (λ h. absurd (omega (arith, p, h))));
      for_suspect = ((λ h. absurd (differ v result suspect e h (omega arith))), (λ h. absurd (true≢false (sym (g.1 h.2) ∙ r))));
      for_result = ((λ h. (p, f.0 q, λ y. true≢false (sym (g.1 y) ∙ r))), (λ h. e));
      for_guess = ((λ h. absurd (differ v guess result h e (omega arith))), (λ h. absurd (h.1 (f.0 q))));
    }
words k b d v C D f g (reads_guess p q e) =
    record {
      for_broken = ((λ h. absurd (differ v guess broken e h (omega arith))), (λ h. absurd (omega (arith, p, h))));
      for_suspect = ((λ h. absurd (differ v guess suspect e h (omega arith))), (λ h. absurd (true≢false (sym (f.1 h.1) ∙ q))));
      for_result = ((λ h. absurd (differ v guess result e h (omega arith))), (λ h. absurd (true≢false (sym (f.1 h.1) ∙ q))));
      for_guess = ((λ h. (p, λ y. true≢false (sym (f.1 y) ∙ q))), (λ h. e));
    }

final : Tally → Bool
final t = eqb (length (counts_of t.streams)) 1 && eqb (ended_in t.streams) (known_count t.streams)

only : (cs : List ℕ) → length cs ≡ 1 → cs ≡ get_or cs 0 0 ∷ []
only [] h = absurd (omega arith)
only (n ∷ []) h = refl
only (n ∷ m ∷ cs) h = absurd (omega arith)

final-complete : (t : Tally) → final t ≡ true → Complete t
unfolding final
final-complete t h =
    let q = (and-eq-true_iff (eqb (length (counts_of t.streams)) 1) (eqb (ended_in t.streams) (known_count t.streams))).0 h in
    (known_count t.streams, only (counts_of t.streams) (eqb-true (length (counts_of t.streams)) 1 q.0), eqb-true (ended_in t.streams) (known_count t.streams) q.1)

complete-final : (t : Tally) → Complete t → final t ≡ true
unfolding final
complete-final t h =
    rw (eq-eqb (length (counts_of t.streams)) 1 (ap length h.1), eq-eqb (ended_in t.streams) (known_count t.streams) (h.2 ∙ sym (ap (λ cs. get_or cs 0 0) h.1)))

-- a range is doubtful where a place is
is-doubted : Tally → Bool
is-doubted t = ltb 0 (size (doubted t.streams))

doubted-where : (t : Tally) → (is-doubted t ≡ true) ↔ HasDoubt t
unfolding is-doubted
doubted-where t =
    let at = by-pair (doubtful_in (blocks_of t.streams)) in
    ((λ h. at.0 (ltb-true 0 (size (doubted t.streams)) h)), (λ h. lt-ltb 0 (size (doubted t.streams)) (at.1 h)))

-- ---- the byte counts

left-bytes : (ss : List Stream) → AllProper ss → sum (λ k. k.left) (map row_of ss) + bytes_in (blocks_of ss) ≡ sum size_of (blocks_of ss)
unfolding sum blocks_of row_of encode_state
left-bytes [] a = refl
left-bytes (s ∷ ss) a =
    omega (arith, left-bytes ss a.1, kind-left (state_from s) (accepted s) (is_non_empty (taken s)) (kind s a.0), sum-append size_of (accepted s) (blocks_of ss), sum-append (λ (x : Block). length x.body) (accepted s) (blocks_of ss))

module _ (F R : ℕ) (before : Pairs) (file : List ℕ) (ruled : ObeyFrom 0 before) where
  stored_is : (t : Tally) → Invariant F R before t → stored_of (world_of F R before file t) ≡ bytes_in (blocks_of t.streams) + total before
  unfolding stored_of left_of world_of transfer_of
  stored_is t i =
      rw (pairs-are F R before file ruled t i) (omega (arith, claims-total (blocks_of t.streams) before ruled i.apart, left-bytes t.streams i.proper))

  -- payloads with bit 32 share no place
  doubts-apart : (t : Tally) → Invariant F R before t → (q : ℕ) → cover q (doubtful_in (blocks_of t.streams)) + contains q none ≤ 1
  unfolding contains
  doubts-apart t i q = omega (arith, i.apart q, sum-doubtful-le (hit_by q) (blocks_of t.streams))

  doubt_is : (t : Tally) → Invariant F R before t → doubt_of (world_of F R before file t) ≡ sum size_of (doubtful_in (blocks_of t.streams))
  unfolding doubt_of world_of total
  doubt_is t i = rw (doubts-are F R before file ruled t i) (omega (arith, claims-total (doubtful_in (blocks_of t.streams)) none tt (doubts-apart t i)))

  pub after-tally : (t : Tally) → length file ≡ F → R ≤ pair_limit → Invariant F R before t → AfterList R before file (world_of F R before file t) t
  after-tally t l r i =
      record {
        broken_is = says.for_broken;
        suspect_is = says.for_suspect;
        result_is = says.for_result;
        guess_is = says.for_guess;
        file_taken = at_place;
        file_rest = λ p h. unfold world_of in none-with_payloads p (blocks_of t.streams) file h;
        file_length = same_length;
        file_is = unfold world_of in refl;
        bytes_are = stored_is t i;
        doubt_is = doubt_is t i;
        fault_is = unfold world_of transfer_of in (refl, refl);
        count_is = unfold world_of transfer_of in refl;
        ended_is = unfold world_of in ended_is F R t i.proper;
        claimed_is = unfold world_of in ledger-is R before (blocks_of t.streams) ruled i.apart i.room;
        doubtful_is = unfold world_of in ledger-is R none (doubtful_in (blocks_of t.streams)) tt (doubts-apart t i) i.doubt_room;
        channels_are = λ c h. unfold world_of in state_is F R t c i.proper (omega (arith, i.number));
        payloads_in_file = λ c. whole-stand (world_of F R before file t).lent.file (blocks_of t.streams) (whole-all t.streams i.proper (all-ended c i.count)) (λ p v h. (omega (arith, (at_place p v h).0, same_length), (at_place p v h).1));
        fits_still = fits-always F R before file t ruled l r i;
      }
    where
      same_length : length (world_of F R before file t).lent.file ≡ length file
      same_length = unfold world_of in length-with_payloads (blocks_of t.streams) file

      -- a place with a payload byte is claimed, so it lies below F
      below : (p v : ℕ) → HasByte p v (blocks_of t.streams) → p < length file
      below p v h =
          let covered = has-cover p v (blocks_of t.streams) (proper-bodies t.streams i.proper) h in
          omega (arith, l, holds-below-end F p (claimed before t.streams) i.ends (omega (arith, claims-holds p (blocks_of t.streams) before ruled, covered)))

      at_place : (p v : ℕ) → HasByte p v (blocks_of t.streams) → (p < length file) × (get_or (world_of F R before file t).lent.file p 0 ≡ v)
      at_place p v h = (below p v h, has p v h)
        where
          has : (p v : ℕ) → HasByte p v (blocks_of t.streams) → get_or (world_of F R before file t).lent.file p 0 ≡ v
          has p v h = unfold world_of in has-with_payloads p v (blocks_of t.streams) file (proper-bodies t.streams i.proper) (omega (arith, i.apart p)) (below p v h) h

      -- as many have ended as are announced, and no more are used
      all-ended : Complete t → Count (counts_of t.streams) (used_in t.streams) → used_in t.streams ≤ ended_in t.streams
      all-ended c (unknown e) = let z : ◌≡◌ {A = ℕ} 0 1 = ap length (sym e ∙ c.1) in absurd (omega (arith, z))
      all-ended c (announced n e e₀ e₁ e₂) =
          let same : n ≡ c.0 = ap (λ cs. get_or cs 0 0) (sym e ∙ c.1) in
          omega (arith, same, c.2)

      by_word : tally_verdict t ≡ word t.fault (final t) (is-doubted t)
      by_word = unfold tally_verdict final is-doubted in refl

      says : Words t.fault (Complete t) (HasDoubt t) (verdict_of (world_of F R before file t))
      says =
          words t.fault (final t) (is-doubted t) (verdict_of (world_of F R before file t)) (Complete t) (HasDoubt t) (final-complete t, complete-final t) (doubted-where t)
          (subst (Read t.fault (final t) (is-doubted t)) (sym (verdict-is F R before file t i ∙ by_word)) (read t.fault (final t) (is-doubted t)))

-- ---- every list

after-list-is : (w : World) (file : List ℕ) (R : ℕ) (before : Pairs) → StartedWith w file R before → (ks : List Call) → AfterList R before file (after w ks) (tally_of (length file) R before ks)
after-list-is w file R before b ks =
    let a = along w file R before b ks in
    subst (λ v. AfterList R before file v (tally_of (length file) R before ks)) (sym (world-along w file R before b ks))
    (after-tally (length file) R before file a.ruled (tally_of (length file) R before ks) refl a.few a.kept)

grew : (w : World) (file : List ℕ) (R : ℕ) (before : Pairs) → StartedWith w file R before → (ks more : List Call)
    → Grown (blocks_of (tally_of (length file) R before ks).streams) (blocks_of (tally_of (length file) R before (ks ++ more)).streams)
grew w file R before b ks more =
    let a = along w file R before b ks in
    let t = tally_of (length file) R before ks in
    subst (λ u. Grown (blocks_of t.streams) (blocks_of u.streams)) (sym (run-append (tally_call_of (length file) R before) empty ks more))
    (run (length file) R before file a.ruled refl a.few more t a.kept).grown

-- a complete tally does not show GUESS, and after any other word no call changes anything
unchanged : (w : World) (file : List ℕ) (R : ℕ) (before : Pairs) → StartedWith w file R before → (ks : List Call) → Complete (tally_of (length file) R before ks) → (more : List Call)
    → Unchanged (after w ks) (after w (ks ++ more))
unchanged w file R before b ks c more =
    subst (Unchanged (after w ks)) (sym (run-append call_of w ks more ∙ rows.stays (after w ks) (λ g. ((after-list-is w file R before b ks).guess_is.0 g).1 c) more))
    (record { verdict = refl; file = refl; claimed = refl; doubtful = refl; bytes = refl; doubt = refl })

pub every_list : EveryList
every_list =
    record {
      begins = every-start-begins;
      answers_are = λ w file R before b ks. ap (λ r. r.0) (along w file R before b ks).out;
      after_list = after-list-is;
      kept = λ w file R before b ks more p v h. grown-has _ _ p v (grew w file R before b ks more) h;
      counted = λ w file R before b ks more.
          omega (arith, (after-list-is w file R before b ks).bytes_are, (after-list-is w file R before b (ks ++ more)).bytes_are, grown-bytes _ _ (grew w file R before b ks more));
      final = unchanged;
    }
