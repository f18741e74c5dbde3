-- A tally on the way through an arrival: every byte is taken, and the verdict is GUESS while a byte is to come, then RESULT or SUSPECT.
use Prim.Native.Nat.{ℕ, suc, ◌+◌, ◌<◌}
use mathlib.Core.Path.{◌≡◌, refl, sym, ap, ◌∙◌, subst}
use mathlib.Core.Logic.{◌⊎◌, inl, inr}
use mathlib.Core.Bool.{Bool, true, false, cond, ◌&&◌}
use mathlib.Core.List.{List, [], ◌∷◌, ◌++◌, append_assoc, append-nil}
use native.Mathlib.Omega.{arith}
use native.Mathlib.Decide.{ℕ_discrete}
use borrow.Author.Tests.{lt-leb, le-ltb, eq-eqb, ne_eqb}
use lib.Dec.{ltb, eqb}
use lib.ListN.{length}
use lib.Seq.{get_or-set_other, ext_get_or}
use Rattle.ledger.specs.Pairs.{Pairs, size, ObeyFrom}
use Rattle.transfer.specs.Channel.{channel_count}
use Rattle.transfer.specs.Transfer.{Verdict, guess, result, suspect}
use Rattle.transfer.specs.Receive.{Outcome, after_byte, take_byte, Answer, refused, took, take_bytes, is_non_empty, is_ended}
use Rattle.transfer.specs.Calls.{Call, receive, fold_calls}
use Rattle.transfer.specs.Block.{has_ended}
use Rattle.transfer.specs.Tally.{Tally, Stream, intact, taken, accepted, counts_of, known_count, doubted, ended_in, tally_verdict, empty, stream_at, with_stream, tally_byte as tally_byte_of, tally_refusal, tally_call}
use Rattle.transfer.specs.StateFrom.{state_from}
use Rattle.transfer.specs.Sending.{pieces_on}
use Rattle.transfer.proofs.ReceivePieces.{bytes-goes, bytes-stops}
use Rattle.transfer.proofs.BlockCounts.{append-nothing}
use Rattle.transfer.proofs.ChannelBytes.{kind, kind-ended}
use Rattle.transfer.proofs.TallyStreams.{stream_in, proper-at}
use Rattle.transfer.proofs.TallyTransfer.{world_of}
use Rattle.transfer.proofs.TallyInvariant.{intact-at, Invariant}
use Rattle.transfer.proofs.TallyByteCases.{Follows, both_go, both_stop, both_leave, stream-now}
use Rattle.transfer.proofs.TallyByte.{step}
use Rattle.transfer.proofs.SendingStreams.{none-at}
use Rattle.transfer.proofs.SendingWellFormed.{Sendable}
use Rattle.transfer.proofs.SendingBegun.{Underway, counts_are, on-channel, not-ended, ended-below}
use Rattle.transfer.proofs.SendingFaultless.{Takes, takes-byte}
use Rattle.transfer.proofs.SendingPieces.{pieces-here, pieces-other, pieces_none}

-- SUSPECT where a range is doubtful, RESULT where none is
abbrev pub last_word : List Stream → Verdict
last_word ss = cond (ltb 0 (size (doubted ss))) suspect result

module _ (F R : ℕ) (before : Pairs) (ruled : ObeyFrom 0 before) (n : ℕ) (all : List Stream) (sent : Sendable F R before n all) where
  -- without a fault so far, and the calls ks are to come
  pub record Way (t : Tally) (ks : List Call) : Type 0 where
    pub clean : t.fault ≡ 0
    pub kept : Invariant F R before t
    pub comes : (c : ℕ) → taken (stream_at t c) ++ pieces_on c ks ≡ taken (stream_in all c)

  pub way-empty : (ks : List Call) → Invariant F R before empty → ((c : ℕ) → pieces_on c ks ≡ taken (stream_in all c)) → Way empty ks
  unfolding empty
  way-empty ks i a = record { clean = refl; kept = i; comes = λ c. ap (λ s. taken s ++ pieces_on c ks) (none-at channel_count c) ∙ a c }

  way-without : (t : Tally) (c : ℕ) (ks : List Call) → Way t (receive c [] ∷ ks) → Way t ks
  way-without t c ks w = record { clean = w.clean; kept = w.kept; comes = λ d. ap (λ bs. taken (stream_at t d) ++ bs) (sym (pieces_none c d ks)) ∙ w.comes d }

  underway : (t : Tally) (ks : List Call) → Way t ks → Underway F R before n all sent t.streams
  underway t ks w = record { number = w.kept.number; clean = w.kept.clean w.clean; to-come = λ c. (pieces_on c ks, w.comes c) }

  -- ---- the verdict

  pub guess-still : (t : Tally) (ks : List Call) (c b : ℕ) (m : List ℕ) → Way t ks → pieces_on c ks ≡ b ∷ m → tally_verdict t ≡ guess
  unfolding tally_verdict
  guess-still t ks c b m w e = rw (le-ltb 0 t.fault (omega (arith, w.clean))) (go (counts_are F R before n all sent t.streams (underway t ks w)))
    where
      less : ended_in t.streams < n
      less = ended-below F R before n all sent t.streams (underway t ks w) c b m (ap (λ bs. taken (stream_at t c) ++ bs) (sym e) ∙ w.comes c)

      go : (counts_of t.streams ≡ []) ⊎ (counts_of t.streams ≡ n ∷ [])
          → cond (eqb (length (counts_of t.streams)) 1 && eqb (ended_in t.streams) (known_count t.streams)) (last_word t.streams) guess ≡ guess
      go (inl h) = rw h
      go (inr h) = rw (h, ne_eqb (ended_in t.streams) n (λ q. omega (arith, less)))

  pub all_there : (t : Tally) (ks : List Call) → Way t ks → ((c : ℕ) → pieces_on c ks ≡ []) → t.streams ≡ all
  all_there t ks w none =
      ext_get_or (intact []) t.streams all (w.kept.number ∙ sym sent.number)
      (λ c h. intact-at t.streams c (w.kept.clean w.clean) ∙ ap intact (same c) ∙ sym (intact-at all c sent.clean))
    where
      same : (c : ℕ) → taken (stream_at t c) ≡ taken (stream_in all c)
      same c = sym (append-nil (taken (stream_at t c))) ∙ ap (λ bs. taken (stream_at t c) ++ bs) (sym (none c)) ∙ w.comes c

  pub last_then : (t : Tally) (ks : List Call) → Way t ks → ((c : ℕ) → pieces_on c ks ≡ []) → tally_verdict t ≡ last_word all
  unfolding tally_verdict
  last_then t ks w none = rw (le-ltb 0 t.fault (omega (arith, w.clean)), all_there t ks w none, sent.counts_are, eq-eqb (ended_in all) n sent.ended_are)

  -- ---- a byte

  module _ (t : Tally) (c b : ℕ) (bs : List ℕ) (ks : List Call) (w : Way t (receive c (b ∷ bs) ∷ ks)) where
    abbrev more : Stream
    more = intact (taken (stream_at t c) ++ b ∷ [])

    abbrev next : Tally
    next = with_stream t c more

    u : Underway F R before n all sent t.streams
    u = underway t (receive c (b ∷ bs) ∷ ks) w

    e : taken (stream_at t c) ++ b ∷ (bs ++ pieces_on c ks) ≡ taken (stream_in all c)
    e = ap (λ m. taken (stream_at t c) ++ m) (sym (pieces-here c (b ∷ bs) ks)) ∙ w.comes c

    k : c < channel_count
    k = on-channel F R before n all sent t.streams u c b (bs ++ pieces_on c ks) e

    alive : has_ended (accepted (stream_at t c)) ≡ false
    alive = not-ended F R before n all sent t.streams u c b (bs ++ pieces_on c ks) e

    takes : Takes (tally_byte_of F R before t c b) next (bs ++ pieces_on c ks)
    takes = takes-byte F R before ruled n all sent t c b (bs ++ pieces_on c ks) w.kept w.clean u e

    ended-not : is_ended (state_from (stream_at t c)) ≡ false
    ended-not = sym (kind-ended (state_from (stream_at t c)) (accepted (stream_at t c)) (is_non_empty (taken (stream_at t c))) (kind (stream_at t c) (proper-at t.streams c w.kept.proper))) ∙ alive

    kept_next : Invariant F R before next
    kept_next = subst (Invariant F R before) (left takes) (followed (step F R before [] ruled t c b w.kept w.clean k ended-not))
      where
        left : Takes (tally_byte_of F R before t c b) next (bs ++ pieces_on c ks) → after_byte (tally_byte_of F R before t c b) ≡ next
        left (inl q) = ap after_byte q
        left (inr q) = ap after_byte q.0

        followed : Follows F R before [] t c (take_byte (world_of F R before [] t) c b) (tally_byte_of F R before t c b) → Invariant F R before (after_byte (tally_byte_of F R before t c b))
        followed (both_go t' y x i g z o) = rw y i
        followed (both_stop t' y x i g) = rw y i
        followed (both_leave t' y x i g) = rw y i

    way_next : Way next (receive c bs ∷ ks)
    way_next = record { clean = w.clean; kept = kept_next; comes = λ d. go d (ℕ_discrete d c) }
      where
        go : (d : ℕ) → Dec (d ≡ c) → taken (stream_at next d) ++ pieces_on d (receive c bs ∷ ks) ≡ taken (stream_in all d)
        go d (yes p) =
            rw p (rw (stream-now t c more (omega (arith, k, w.kept.number)), pieces-here c bs ks) (append_assoc (taken (stream_at t c)) (b ∷ []) (bs ++ pieces_on c ks) ∙ e))
        go d (no p) =
            rw (get_or-set_other t.streams c d more (intact []) p, pieces-other c d bs ks p) (ap (λ m. taken (stream_at t d) ++ m) (sym (pieces-other c d (b ∷ bs) ks p)) ∙ w.comes d)

  -- ---- a piece, a call, a list of calls

  bytes : (bs : List ℕ) (t : Tally) (c k : ℕ) (ks : List Call) → Way t (receive c bs ∷ ks)
      → (t' : Tally) × (take_bytes (λ v b. tally_byte_of F R before v c b) t bs k ≡ (took (k + length bs), t')) × Way t' ks
  unfolding take_bytes
  bytes [] t c k ks w = let e : k ≡ k + 0 = omega arith in (t, ap (λ j. (took j, t)) e, way-without t c ks w)
  bytes (b ∷ bs) t c k ks w = go (takes t c b bs ks w) (bytes bs (next t c b bs ks w) c (suc k) ks (way_next t c b bs ks w))
    where
      N : Tally → ℕ → Outcome Tally
      N v x = tally_byte_of F R before v c x

      T : Tally
      T = next t c b bs ks w

      go : Takes (tally_byte_of F R before t c b) T (bs ++ pieces_on c ks)
          → (t' : Tally) × (take_bytes (λ v b. tally_byte_of F R before v c b) T bs (suc k) ≡ (took (suc k + length bs), t')) × Way t' ks
          → (t' : Tally) × (take_bytes (λ v b. tally_byte_of F R before v c b) t (b ∷ bs) k ≡ (took (k + suc (length bs)), t')) × Way t' ks
      go (inl q) i =
          let e : suc k + length bs ≡ k + suc (length bs) = omega arith in
          (i.0, bytes-goes N t T b bs k q ∙ i.1 ∙ ap (λ j. (took j, i.0)) e, i.2)
      go (inr q) i =
          let last : bs ≡ [] = (append-nothing bs (pieces_on c ks) q.1).0 in
          let e : suc k ≡ k + suc (length bs) = omega (arith, ap length last) in
          (T, bytes-stops N t T b bs k q.0 ∙ ap (λ j. (took j, T)) e, way-without T c ks (subst (λ m. Way T (receive c m ∷ ks)) last (way_next t c b bs ks w)))

  pub call-taken : (t : Tally) (c b : ℕ) (bs : List ℕ) (ks : List Call) → Way t (receive c (b ∷ bs) ∷ ks)
      → (t' : Tally) × (tally_call F R before t (receive c (b ∷ bs)) ≡ (took (suc (length bs)), t')) × Way t' ks
  call-taken t c b bs ks w =
      let i = bytes (b ∷ bs) t c 0 ks w in
      let e : 0 + suc (length bs) ≡ suc (length bs) = omega arith in
      (i.0, goes_through ∙ i.1 ∙ ap (λ j. (took j, i.0)) e, i.2)
    where
      guesses : tally_verdict t ≡ guess
      guesses = guess-still t (receive c (b ∷ bs) ∷ ks) c b (bs ++ pieces_on c ks) w (pieces-here c (b ∷ bs) ks)

      not-refused : tally_refusal t c (b ∷ bs) ≡ 0
      not-refused = unfold tally_refusal in rw (lt-leb channel_count c (k t c b bs ks w), guesses, alive t c b bs ks w)

      goes_through : tally_call F R before t (receive c (b ∷ bs)) ≡ take_bytes (λ v x. tally_byte_of F R before v c x) t (b ∷ bs) 0
      goes_through = unfold tally_call in rw not-refused

  empty-call : (t : Tally) (c : ℕ) → (tally_call F R before t (receive c [])).1 ≡ t
  unfolding tally_call take_bytes
  empty-call t c = go (ltb 0 (tally_refusal t c []))
    where
      go : (b : Bool) → (cond {A = Answer × Tally} b (refused (tally_refusal t c []), t) (took 0, t)).1 ≡ t
      go true = refl
      go false = refl

  pub run-taken : (pre post : List Call) (t : Tally) → Way t (pre ++ post) → Way (fold_calls (tally_call F R before) t pre).1 post
  unfolding fold_calls
  run-taken [] post t w = w
  run-taken (receive c [] ∷ pre) post t w =
      run-taken pre post (tally_call F R before t (receive c [])).1 (subst (λ v. Way v (pre ++ post)) (sym (empty-call t c)) (way-without t c (pre ++ post) w))
  run-taken (receive c (b ∷ bs) ∷ pre) post t w =
      let i = call-taken t c b bs (pre ++ post) w in
      run-taken pre post (tally_call F R before t (receive c (b ∷ bs))).1 (subst (λ v. Way v (pre ++ post)) (sym (ap (λ a. a.1) i.1)) i.2)
