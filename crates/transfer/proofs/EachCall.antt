-- What a byte, a piece and a call add to a tally.
use Prim.Native.Nat.{ℕ, zero, suc, ◌+◌, ◌<◌}
use mathlib.Core.Path.{◌≡◌, refl, sym, ap, ◌∙◌, subst}
use mathlib.Core.Logic.{◌⊎◌, inl, inr, ◌≢◌}
use mathlib.Core.Bool.{Bool, true, false, cond, ◌&&◌, not}
use mathlib.Core.List.{List, [], ◌∷◌, ◌++◌, append_assoc, append-nil}
use native.Mathlib.Omega.{arith}
use borrow.Author.Tests.{leb-false}
use lib.Dec.{leb, ltb, eqb}
use lib.ListN.{length, get_or, set, take, length-set}
use lib.Seq.{get_or-set_same, get_or-set_other}
use Rattle.ledger.specs.Pairs.{Pairs}
use Rattle.transfer.specs.Channel.{channel_count, held_limit}
use Rattle.transfer.specs.Transfer.{World}
use Rattle.transfer.specs.Header.{request_of}
use Rattle.transfer.specs.Receive.{Outcome, continues, stops, not_taken, Answer, refused, took, take_bytes, is_guess, is_non_empty}
use Rattle.transfer.specs.Calls.{Call, receive, call_of, fold_calls, after}
use Rattle.transfer.specs.Block.{cut, partial_header, has_ended}
use Rattle.transfer.specs.Tally.{Tally, Stream, intact, faulted, taken, accepted, counted_streams, known_count, claimed, doubted, used_in, tally_verdict, empty, stream_at, with_stream, tally_with_fault, keep_bytes, apply_judgement, request_fault, tally_byte_after, tally_byte, tally_refusal, tally_call as tally_call_of}
use Rattle.transfer.specs.AfterList.{StartedWith, tally_of}
use Rattle.transfer.specs.EachCall.{Adds, EachCall}
use Rattle.transfer.proofs.ReceivePieces.{bytes-goes, bytes-stops, bytes-leaves}
use Rattle.transfer.proofs.Rows.{run-append}
use Rattle.transfer.proofs.TallyCalls.{call}
use Rattle.transfer.proofs.TallyFromStart.{along, world-along}

-- ---- a byte

-- the channel c has the byte b more, and no other has any
record More (t u : Tally) (c b : ℕ) : Type 0 where
  here : taken (stream_at u c) ≡ taken (stream_at t c) ++ b ∷ []
  there : (d : ℕ) → d ≢ c → stream_at u d ≡ stream_at t d
  number : length u.streams ≡ length t.streams

abbrev Over : Tally → ℕ → Type 0
Over u c = (0 < u.fault) ⊎ (has_ended (accepted (stream_at u c)) ≡ true)

abbrev Leads : Tally → ℕ → ℕ → Outcome Tally → Type 0
Leads t c b (continues u) = More t u c b
Leads t c b (stops u) = More t u c b × Over u c
Leads t c b (not_taken u) = (u.streams ≡ t.streams) × (0 < u.fault)

module _ (t : Tally) (c b : ℕ) (h : c < length t.streams) where
  abbrev longer : List ℕ
  longer = taken (stream_at t c) ++ b ∷ []

  at : (s : Stream) → get_or (set t.streams c s) c (intact []) ≡ s
  at s = get_or-set_same t.streams c s (intact []) h

  adds : (s : Stream) (k o : ℕ) → taken s ≡ longer → More t (record { streams = set t.streams c s; fault = k; on = o }) c b
  adds s k o e =
      record { here = ap taken (at s) ∙ e; there = λ d n. get_or-set_other t.streams c d s (intact []) n; number = length-set t.streams c s }

  keeps-leads : Leads t c b (keep_bytes t c longer)
  unfolding keep_bytes
  keeps-leads = go (has_ended (cut longer)) refl
    where
      next : Tally
      next = with_stream t c (intact longer)

      ended : has_ended (cut longer) ≡ true → has_ended (accepted (get_or (set t.streams c (intact longer)) c (intact []))) ≡ true
      ended e = ap (λ s. has_ended (accepted s)) (at (intact longer)) ∙ (unfold accepted in e)

      go : (x : Bool) → has_ended (cut longer) ≡ x → Leads t c b (cond x (stops next) (continues next))
      go true e = (adds (intact longer) t.fault t.on refl, inr (ended e))
      go false e = adds (intact longer) t.fault t.on refl

  judged-leads : (k : ℕ) → Leads t c b (apply_judgement t c longer k)
  unfolding apply_judgement
  judged-leads zero = keeps-leads
  judged-leads (suc k) = (adds (faulted longer) (suc k) c refl, inl (omega arith))

  byte-leads : (F R : ℕ) (before : Pairs) → Leads t c b (tally_byte F R before t c b)
  unfolding tally_byte tally_byte_after
  byte-leads F R before =
      go (not (is_non_empty (taken (stream_at t c))) && (ltb 0 (known_count (counted_streams t)) && eqb (used_in (counted_streams t)) (known_count (counted_streams t)))) (eqb (length (partial_header (taken (stream_at t c)))) held_limit)
      (request_fault R (claimed before (counted_streams t)) (doubted (counted_streams t)) (request_of F (known_count (counted_streams t)) (used_in (counted_streams t)) (partial_header (taken (stream_at t c)) ++ (b ∷ []))))
    where
      go : (x y : Bool) (k : ℕ) → Leads t c b (cond x (not_taken (tally_with_fault t 19 c)) (cond y (apply_judgement t c longer k) (keep_bytes t c longer)))
      go true y k = (refl, omega arith)
      go false true k = judged-leads k
      go false false k = keeps-leads

-- ---- a piece

module _ (F R : ℕ) (before : Pairs) where
  abbrev steps : ℕ → Tally → ℕ → Outcome Tally
  steps c u x = tally_byte F R before u c x

  -- n of its bytes are taken, after k that were before
  abbrev Takes : Tally → ℕ → List ℕ → ℕ → Type 0
  Takes t c piece k = (n : ℕ) × ((take_bytes (steps c) t piece k).0 ≡ took (k + n)) × Adds t (take_bytes (steps c) t piece k).1 c piece n

  piece-adds : (piece : List ℕ) (t : Tally) (c k : ℕ) → c < length t.streams → Takes t c piece k
  unfolding take_bytes
  piece-adds [] t c k h =
      let e : k ≡ k + 0 = omega arith in
      (0, ap took e, record { few = omega arith; more = sym (append-nil (taken (stream_at t c))); others = λ d n. refl; fewer = λ q. absurd (omega arith) })
  piece-adds (b ∷ piece) t c k h = go (tally_byte F R before t c b) refl (byte-leads t c b h F R before) (λ u g. piece-adds piece u c (suc k) g)
    where
      go : (r : Outcome Tally) → tally_byte F R before t c b ≡ r → Leads t c b r → ((u : Tally) → c < length u.streams → Takes u c piece (suc k)) → Takes t c (b ∷ piece) k
      go (continues u) e m i =
          let r = i u (omega (arith, h, m.number)) in
          let a = r.2 in
          let s : suc k + r.0 ≡ k + suc r.0 = omega arith in
          subst (λ z. (n : ℕ) × (z.0 ≡ took (k + n)) × Adds t z.1 c (b ∷ piece) n) (sym (bytes-goes (steps c) t u b piece k e)) (
            suc r.0,
            r.1 ∙ ap took s,
            record {
              few = omega (arith, a.few);
              more = a.more ∙ ap (λ x. x ++ take r.0 piece) m.here ∙ append_assoc (taken (stream_at t c)) (b ∷ []) (take r.0 piece);
              others = λ d n. a.others d n ∙ m.there d n;
              fewer = λ q. a.fewer (omega arith);
            },
          )
      go (stops u) e m i =
          let s : suc k ≡ k + 1 = omega arith in
          subst (λ z. (n : ℕ) × (z.0 ≡ took (k + n)) × Adds t z.1 c (b ∷ piece) n) (sym (bytes-stops (steps c) t u b piece k e))
          (1, ap took s, record { few = omega arith; more = m.0.here; others = m.0.there; fewer = λ q. m.1 })
      go (not_taken u) e m i =
          let s : k ≡ k + 0 = omega arith in
          let same : (d : ℕ) → stream_at u d ≡ stream_at t d = λ d. ap (λ ss. get_or ss d (intact [])) m.0 in
          subst (λ z. (n : ℕ) × (z.0 ≡ took (k + n)) × Adds t z.1 c (b ∷ piece) n) (sym (bytes-leaves (steps c) t u b piece k e))
          (0, ap took s, record { few = omega arith; more = ap taken (same c) ∙ sym (append-nil (taken (stream_at t c))); others = λ d n. same d; fewer = λ q. inl m.1 })

  -- ---- a call

  abbrev Answered : Tally → ℕ → List ℕ → Answer → Tally → Type 0
  Answered t c piece (took n) u = Adds t u c piece n
  Answered t c piece (refused n) u = ((n ≡ 2) ⊎ ((n ≡ 3) ⊎ (n ≡ 4))) × (u ≡ t)

  pub call-adds : (t : Tally) (c : ℕ) (piece : List ℕ) → length t.streams ≡ channel_count
      → let r = tally_call_of F R before t (receive c piece) in Answered t c piece r.0 r.1
  unfolding tally_call_of tally_refusal
  call-adds t c piece h = go (leb channel_count c) (is_guess (tally_verdict t)) (is_non_empty piece && has_ended (accepted (stream_at t c))) refl
    where
      go : (x y z : Bool) → leb channel_count c ≡ x
          → let n : ℕ = cond x 2 (cond (not y) 3 (cond z 4 0)) in
          let r : Answer × Tally = cond (ltb 0 n) (refused n, t) (take_bytes (steps c) t piece 0) in
          Answered t c piece r.0 r.1
      go true y z e = (inl refl, refl)
      go false false z e = (inr (inl refl), refl)
      go false true true e = (inr (inr refl), refl)
      go false true false e =
          let a = piece-adds piece t c 0 (omega (arith, leb-false channel_count c e, h)) in
          let s : 0 + a.0 ≡ a.0 = omega arith in
          subst (λ r. Answered t c piece r (take_bytes (steps c) t piece 0).1) (sym (a.1 ∙ ap took s)) a.2

-- ---- each call of a list

module _ (w : World) (file : List ℕ) (R : ℕ) (before : Pairs) (b : StartedWith w file R before) (ks : List Call) (c : ℕ) (piece : List ℕ) where
  abbrev sofar : Tally
  sofar = tally_of (length file) R before ks

  abbrev then : Tally
  then = tally_of (length file) R before (ks ++ (receive c piece ∷ []))

  then_is : then ≡ (tally_call_of (length file) R before sofar (receive c piece)).1
  then_is = run-append (tally_call_of (length file) R before) empty ks (receive c piece ∷ []) ∙ (unfold fold_calls in refl)

  answer_is : (call_of (after w ks) (receive c piece)).0 ≡ (tally_call_of (length file) R before sofar (receive c piece)).0
  answer_is =
      let a = along w file R before b ks in
      ap (λ v. (call_of v (receive c piece)).0) (world-along w file R before b ks)
      ∙ ap (λ r. r.0) (call (length file) R before file a.ruled refl a.few sofar (receive c piece) a.kept).out

  answered : (r : Answer) → (call_of (after w ks) (receive c piece)).0 ≡ r → Answered (length file) R before sofar c piece r then
  answered r e =
      subst (Answered (length file) R before sofar c piece r) (sym then_is)
      (subst (λ q. Answered (length file) R before sofar c piece q (tally_call_of (length file) R before sofar (receive c piece)).1) (sym answer_is ∙ e)
      (call-adds (length file) R before sofar c piece (along w file R before b ks).kept.number))

pub each_call : EachCall
each_call =
    record {
      takes = λ w file R before b ks c piece n e. answered w file R before b ks c piece (took n) e;
      refuses = λ w file R before b ks c piece n e. answered w file R before b ks c piece (refused n) e;
    }
