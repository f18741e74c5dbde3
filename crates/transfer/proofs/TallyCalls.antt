-- A piece, a call, a list of calls: the receiver on the world of a tally answers and leaves what the tally does.
use Prim.Native.Nat.{ℕ, zero, suc, ◌≤◌, ◌<◌}
use mathlib.Core.Path.{◌≡◌, refl, sym, ap, ◌∙◌}
use mathlib.Core.Logic.{◌⊎◌, inl, inr}
use mathlib.Core.Bool.{Bool, true, false, cond, ◌&&◌, not, false≢true}
use mathlib.Core.List.{List, [], ◌∷◌}
use native.Mathlib.Omega.{arith}
use native.Mathlib.Decide.{dec_lt}
use borrow.Author.Tests.{lt-ltb, leb-false}
use lib.Dec.{leb, ltb, eqb}
use lib.ListN.{length}
use Rattle.ledger.specs.Pairs.{Pairs, size, ObeyFrom}
use Rattle.ledger.specs.Ledger.{laid_out}
use Rattle.ledger.proofs.LedgerLayout.{pairs_of-laid_out}
use Rattle.ledger.proofs.LedgerEntries.{has-pair-size}
use Rattle.transfer.specs.Channel.{channel_count, state_at}
use Rattle.transfer.specs.Transfer.{World, Verdict, guess, result, suspect, broken, all_ended, is_doubted, verdict_of}
use Rattle.transfer.specs.Receive.{Outcome, take_byte, Answer, refused, take_bytes, is_guess, is_ended, is_non_empty, refusal_of, receive_of}
use Rattle.transfer.specs.Fit.{pair_limit}
use Rattle.transfer.specs.Calls.{Call, receive, call_of, fold_calls}
use Rattle.transfer.proofs.ReceivePieces.{bytes-goes, bytes-stops, bytes-leaves}
use Rattle.transfer.proofs.BlockDoubts.{doubts-ruled}
use Rattle.transfer.specs.Block.{Block, has_ended}
use Rattle.transfer.specs.Tally.{Tally, taken, accepted, blocks_of, counts_of, known_count, doubted, used_in, ended_in, tally_verdict, stream_at, tally_byte as tally_byte_of, tally_refusal as tally_refusal_of, tally_call as tally_call_of}
use Rattle.transfer.specs.StateFrom.{state_from}
use Rattle.transfer.proofs.ChannelBytes.{kind, kind-ended}
use Rattle.transfer.proofs.TallyStreams.{proper-at}
use Rattle.transfer.proofs.TallyTransfer.{transfer_of, world_of, state_is, ended_is}
use Rattle.transfer.proofs.TallyInvariant.{Count, unknown, announced, Invariant, Grows}
use Rattle.transfer.proofs.TallyByteCases.{Follows, both_go, both_stop, both_leave}
use Rattle.transfer.proofs.TallyByte.{step}
use Rattle.transfer.proofs.FitOfTally.{fits-always}

-- the blocks grew, byte by byte
pub data Grown : List Block → List Block → Type 0 where
  not_yet : (a : List Block) → Grown a a
  once_more : (a b d : List Block) → Grows a b → Grown b d → Grown a d

grown-on : (a b d : List Block) → Grown a b → Grown b d → Grown a d
grown-on a b d (not_yet x) h = h
grown-on a b d (once_more x y w g r) h = once_more a y d g (grown-on y b d r h)

-- what the receiver answers and leaves is what the tally does, the invariant holds after it, and blocks only grew
pub record Same (F R : ℕ) (before : Pairs) (file : List ℕ) (t : Tally) (A : Type 0) (x : A × World) (y : A × Tally) : Type 0 where
  pub out : x ≡ (y.0, world_of F R before file y.1)
  pub kept : Invariant F R before y.1
  pub grown : Grown (blocks_of t.streams) (blocks_of y.1.streams)

-- ---- the verdict

-- the doubtful ledger has a used pair where a range is doubtful
doubted_is : (F R : ℕ) (before : Pairs) (file : List ℕ) (t : Tally) → Invariant F R before t → is_doubted (world_of F R before file t) ≡ ltb 0 (size (doubted t.streams))
unfolding is_doubted world_of
doubted_is F R before file t i =
    has-pair-size (laid_out R (doubted t.streams)) ∙ ap (λ ps. ltb 0 (size ps)) (pairs_of-laid_out R 0 (doubted t.streams) (doubts-ruled (blocks_of t.streams)) i.doubt_room)

pub verdict-is : (F R : ℕ) (before : Pairs) (file : List ℕ) (t : Tally) → Invariant F R before t → verdict_of (world_of F R before file t) ≡ tally_verdict t
unfolding verdict_of all_ended tally_verdict
verdict-is F R before file t i = rw (doubted_is F R before file t i) (unfold world_of in rw (ended_is F R t i.proper) (unfold transfer_of in go i.count))
  where
    last : Verdict
    last = cond (ltb 0 (size (doubted t.streams))) suspect result

    go : Count (counts_of t.streams) (used_in t.streams)
        → cond (ltb 0 t.fault) broken (cond (ltb 0 (known_count t.streams) && eqb (ended_in t.streams) (known_count t.streams)) last guess)
        ≡ cond (ltb 0 t.fault) broken (cond (eqb (length (counts_of t.streams)) 1 && eqb (ended_in t.streams) (known_count t.streams)) last guess)
    go (unknown x) = rw x
    go (announced n x x₀ x₁ x₂) = rw (x, lt-ltb 0 n x₀)

guess-clean : (t : Tally) → is_guess (tally_verdict t) ≡ true → t.fault ≡ 0
unfolding tally_verdict
guess-clean t h = go (dec_lt 0 t.fault)
  where
    go : Dec (0 < t.fault) → t.fault ≡ 0
    go (yes q) = absurd (false≢true (rw (lt-ltb 0 t.fault q) at h))
    go (no q) = omega arith

-- ---- a piece

module _ (F R : ℕ) (before : Pairs) (file : List ℕ) (ruled : ObeyFrom 0 before) where
  abbrev here : Tally → World
  here t = world_of F R before file t

  bytes : (piece : List ℕ) (t : Tally) (c k : ℕ) → Invariant F R before t → t.fault ≡ 0 → c < channel_count → (is_ended (state_from (stream_at t c)) ≡ false) ⊎ (piece ≡ [])
      → Same F R before file t Answer (take_bytes (λ v b. take_byte v c b) (world_of F R before file t) piece k) (take_bytes (λ v b. tally_byte_of F R before v c b) t piece k)
  unfolding take_bytes
  bytes [] t c k i z h o = record { out = refl; kept = i; grown = not_yet (blocks_of t.streams) }
  bytes (b ∷ piece) t c k i z h (inr o) = let e : ◌≡◌ {A = ℕ} 0 1 = cc in absurd (omega arith)
  bytes (b ∷ piece) t c k i z h (inl o) = go (step F R before file ruled t c b i z h o) (λ t' i' z' o'. bytes piece t' c (suc k) i' z' h (inl o'))
    where
      M : World → ℕ → Outcome World
      M v x = take_byte v c x

      N : Tally → ℕ → Outcome Tally
      N v x = tally_byte_of F R before v c x

      grew : (t' : Tally) → Grows (blocks_of t.streams) (blocks_of t'.streams) → Grown (blocks_of t.streams) (blocks_of t'.streams)
      grew t' g = once_more (blocks_of t.streams) (blocks_of t'.streams) (blocks_of t'.streams) g (not_yet (blocks_of t'.streams))

      go : Follows F R before file t c (take_byte (world_of F R before file t) c b) (tally_byte_of F R before t c b)
          → ((t' : Tally) → Invariant F R before t' → t'.fault ≡ 0 → is_ended (state_from (stream_at t' c)) ≡ false
          → Same F R before file t' Answer (take_bytes (λ v b. take_byte v c b) (world_of F R before file t') piece (suc k)) (take_bytes (λ v b. tally_byte_of F R before v c b) t' piece (suc k)))
          → Same F R before file t Answer (take_bytes (λ v b. take_byte v c b) (world_of F R before file t) (b ∷ piece) k) (take_bytes (λ v b. tally_byte_of F R before v c b) t (b ∷ piece) k)
      go (both_go t' y x i' g z' o') on =
          rw (bytes-goes M (world_of F R before file t) (world_of F R before file t') b piece k x, bytes-goes N t t' b piece k y)
          (let s = on t' i' z' o' in record { out = s.out; kept = s.kept; grown = once_more _ _ _ g s.grown })
      go (both_stop t' y x i' g) on =
          rw (bytes-stops M (world_of F R before file t) (world_of F R before file t') b piece k x, bytes-stops N t t' b piece k y) (record { out = refl; kept = i'; grown = grew t' g })
      go (both_leave t' y x i' g) on =
          rw (bytes-leaves M (world_of F R before file t) (world_of F R before file t') b piece k x, bytes-leaves N t t' b piece k y) (record { out = refl; kept = i'; grown = grew t' g })

  -- ---- a call

  module _ (l : length file ≡ F) (r : R ≤ pair_limit) where
    -- a call is refused by both or by neither, with the same number
    refusal_is : (t : Tally) (c : ℕ) (piece : List ℕ) → Invariant F R before t → refusal_of (world_of F R before file t) c piece ≡ tally_refusal_of t c piece
    unfolding refusal_of tally_refusal_of
    refusal_is t c piece i = rw (fits-always F R before file t ruled l r i, verdict-is F R before file t i) (go (leb channel_count c) refl)
      where
        go : (q : Bool) → leb channel_count c ≡ q
            → ◌≡◌ {A = ℕ} (cond q 2 (cond (not (is_guess (tally_verdict t))) 3 (cond (is_non_empty piece && is_ended (state_at (world_of F R before file t).t c)) 4 0)))
            (cond q 2 (cond (not (is_guess (tally_verdict t))) 3 (cond (is_non_empty piece && has_ended (accepted (stream_at t c))) 4 0)))
        go true q = refl
        go false q =
            let seen : is_ended (state_at (world_of F R before file t).t c) ≡ is_ended (state_from (stream_at t c)) =
            unfold world_of in ap is_ended (state_is F R t c i.proper (omega (arith, leb-false channel_count c q, i.number))) in
            let ends = kind-ended (state_from (stream_at t c)) (accepted (stream_at t c)) (is_non_empty (taken (stream_at t c))) (kind (stream_at t c) (proper-at t.streams c i.proper)) in
            rw (seen, ends)

    -- what a call that is not refused can rely on
    record Goes (t : Tally) (c : ℕ) (piece : List ℕ) : Type 0 where
      pub channel : c < channel_count
      pub clean : t.fault ≡ 0
      pub alive : (is_ended (state_from (stream_at t c)) ≡ false) ⊎ (piece ≡ [])

    not-refused : (t : Tally) (c : ℕ) (piece : List ℕ) → Invariant F R before t → tally_refusal_of t c piece ≡ 0 → Goes t c piece
    unfolding tally_refusal_of
    not-refused t c piece i e = go (leb channel_count c) (is_guess (tally_verdict t)) piece (has_ended (accepted (stream_at t c))) refl refl refl e
      where
        go : (p q : Bool) (bs : List ℕ) (x : Bool) → leb channel_count c ≡ p → is_guess (tally_verdict t) ≡ q → has_ended (accepted (stream_at t c)) ≡ x
            → ◌≡◌ {A = ℕ} (cond p 2 (cond (not q) 3 (cond (is_non_empty bs && x) 4 0))) 0 → Goes t c bs
        go true q bs x a b d z = absurd (omega arith)
        go false false bs x a b d z = absurd (omega arith)
        go false true (y ∷ bs) true a b d z = absurd (omega arith)
        go false true (y ∷ bs) false a b d z =
            let ends = kind-ended (state_from (stream_at t c)) (accepted (stream_at t c)) (is_non_empty (taken (stream_at t c))) (kind (stream_at t c) (proper-at t.streams c i.proper)) in
            record { channel = leb-false channel_count c a; clean = guess-clean t b; alive = inl (sym ends ∙ d) }
        go false true [] x a b d z = record { channel = leb-false channel_count c a; clean = guess-clean t b; alive = inr refl }

    pub call : (t : Tally) (k : Call) → Invariant F R before t → Same F R before file t Answer (call_of (world_of F R before file t) k) (tally_call_of F R before t k)
    unfolding call_of receive_of tally_call_of
    call t (receive c piece) i = rw (refusal_is t c piece i) (go (tally_refusal_of t c piece) refl)
      where
        go : (n : ℕ) → tally_refusal_of t c piece ≡ n
            → Same F R before file t Answer
            (cond (ltb 0 n) (refused n, world_of F R before file t) (take_bytes (λ v b. take_byte v c b) (world_of F R before file t) piece 0))
            (cond (ltb 0 n) (refused n, t) (take_bytes (λ v b. tally_byte_of F R before v c b) t piece 0))
        go zero e = let g = not-refused t c piece i e in bytes piece t c 0 i g.clean g.channel g.alive
        go (suc n) e = rw (lt-ltb 0 (suc n) (omega arith)) (record { out = refl; kept = i; grown = not_yet (blocks_of t.streams) })

    -- ---- a list of calls

    pub run : (ks : List Call) (t : Tally) → Invariant F R before t
        → Same F R before file t (List Answer) (fold_calls call_of (world_of F R before file t) ks) (fold_calls (tally_call_of F R before) t ks)
    unfolding fold_calls
    run [] t i = record { out = refl; kept = i; grown = not_yet (blocks_of t.streams) }
    run (k ∷ ks) t i =
        let a = call t k i in
        let t' = (tally_call_of F R before t k).1 in
        let b = run ks t' a.kept in
        record { out = rw (a.out, b.out); kept = b.kept; grown = grown-on (blocks_of t.streams) (blocks_of t'.streams) (blocks_of (fold_calls (tally_call_of F R before) t' ks).1.streams) a.grown b.grown }
