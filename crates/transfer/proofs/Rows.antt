-- What a receive call answers and leaves, from its definition.
use Prim.Native.Nat.{ℕ, suc, ◌≤◌, ◌<◌}
use mathlib.Core.Path.{◌≡◌, refl, ap, ◌∙◌}
use mathlib.Core.Bool.{Bool, true, false, cond, ◌&&◌}
use mathlib.Core.List.{List, [], ◌∷◌, ◌++◌}
use native.Mathlib.Omega.{arith}
use borrow.Author.Tests.{lt-ltb, eq-eqb, le-leb, lt-leb, leb-true, leb-false}
use lib.Dec.{leb}
use Rattle.transfer.specs.Channel.{channel_count, State, unused, header, payload, ended, state_at, put_fault}
use Rattle.transfer.specs.Transfer.{used_of, World, with_transfer, Verdict, guess, result, suspect, broken, verdict_of}
use Rattle.transfer.specs.Receive.{not_taken, Answer, refused, took, take_bytes, take_byte, is_guess, is_ended, is_non_empty, refusal_of, receive_of}
use Rattle.transfer.specs.Fit.{fits}
use Rattle.transfer.specs.Calls.{Call, receive, call_of, fold_calls, answers_of, after}
use Rattle.transfer.proofs.ReceiveBytes.{byte-unused}
use Rattle.transfer.proofs.ReceivePieces.{bytes-none, bytes-goes, bytes-stops, bytes-leaves}
use Rattle.transfer.specs.Rows.{Rows}

not-guess : (v : Verdict) → (v ≡ guess → ⊥) → is_guess v ≡ false
not-guess guess h = absurd (h refl)
not-guess result h = refl
not-guess suspect h = refl
not-guess broken h = refl

pub not-ended : (x : State) → (x ≡ ended → ⊥) → is_ended x ≡ false
not-ended unused h = refl
not-ended (header r) h = refl
not-ended (payload p n e) h = refl
not-ended ended h = absurd (h refl)

-- a call by its refusal's number
refuses : (w : World) (c : ℕ) (piece : List ℕ) (n : ℕ) → refusal_of w c piece ≡ suc n → receive_of w c piece ≡ (refused (suc n), w)
unfolding receive_of
refuses w c piece n e = rw (e, lt-ltb 0 (suc n) (omega arith))

takes : (w : World) (c : ℕ) (piece : List ℕ) → refusal_of w c piece ≡ 0 → receive_of w c piece ≡ take_bytes (λ v x. take_byte v c x) w piece 0
unfolding receive_of
takes w c piece e = rw e

module _ (w : World) (c : ℕ) (fit : fits w ≡ true) (h : c < channel_count) where
  here : leb channel_count c ≡ false
  here = lt-leb channel_count c h

  refusal-guess : (piece : List ℕ) → verdict_of w ≡ guess → refusal_of w c piece ≡ cond (is_non_empty piece && is_ended (state_at w.t c)) 4 0
  unfolding refusal_of
  refusal-guess piece v = rw (fit, here, v)

  pub third-row : (piece : List ℕ) → (verdict_of w ≡ guess → ⊥) → receive_of w c piece ≡ (refused 3, w)
  third-row piece v = refuses w c piece 2 (unfold refusal_of in rw (fit, here, not-guess (verdict_of w) v))

  fourth-row : (b : ℕ) (bs : List ℕ) → verdict_of w ≡ guess → state_at w.t c ≡ ended → receive_of w c (b ∷ bs) ≡ (refused 4, w)
  fourth-row b bs v s = refuses w c (b ∷ bs) 3 (refusal-guess (b ∷ bs) v ∙ rw s)

  empty-row : verdict_of w ≡ guess → receive_of w c [] ≡ (took 0, w)
  empty-row v = takes w c [] (refusal-guess [] v) ∙ (unfold take_bytes in refl)

  taken-row : (b : ℕ) (bs : List ℕ) → verdict_of w ≡ guess → (state_at w.t c ≡ ended → ⊥) → receive_of w c (b ∷ bs) ≡ take_bytes (λ v x. take_byte v c x) w (b ∷ bs) 0
  taken-row b bs v s = takes w c (b ∷ bs) (refusal-guess (b ∷ bs) v ∙ rw (not-ended (state_at w.t c) s))

first-row : (w : World) (c : ℕ) (piece : List ℕ) → fits w ≡ false → receive_of w c piece ≡ (refused 1, w)
first-row w c piece e = refuses w c piece 0 (unfold refusal_of in rw e)

second-row : (w : World) (c : ℕ) (piece : List ℕ) → fits w ≡ true → channel_count ≤ c → receive_of w c piece ≡ (refused 2, w)
second-row w c piece e h = refuses w c piece 1 (unfold refusal_of in rw (e, le-leb channel_count c h))

-- ---- 19

nineteen : (w : World) (c b : ℕ) → state_at w.t c ≡ unused → 0 < w.t.count → used_of w.t ≡ w.t.count → take_byte w c b ≡ not_taken (with_transfer w (put_fault w.t 19 c))
nineteen w c b u n e = byte-unused w c b u ∙ rw (lt-ltb 0 w.t.count n, eq-eqb (used_of w.t) w.t.count e)

-- ---- lists of calls

-- what two lists leave, one after the other
pub run-append : {W : Type 0} (f : W → Call → Answer × W) (w : W) (ks more : List Call) → (fold_calls f w (ks ++ more)).1 ≡ (fold_calls f (fold_calls f w ks).1 more).1
unfolding fold_calls
run-append f w [] more = refl
run-append f w (k ∷ ks) more = run-append f (f w k).1 ks more

one-more-call : (w : World) (ks : List Call) (k : Call)
    → (after w (ks ++ k ∷ []) ≡ (call_of (after w ks) k).1) × (answers_of w (ks ++ k ∷ []) ≡ answers_of w ks ++ ((call_of (after w ks) k).0 ∷ []))
unfolding fold_calls
one-more-call w [] k = (refl, refl)
one-more-call w (x ∷ ks) k = let i = one-more-call (call_of w x).1 ks k in (i.0, ap {B = List Answer} (λ r. (call_of w x).0 ∷ r) i.1)

-- ---- no call changes a world whose verdict is not GUESS

still : (w : World) → (verdict_of w ≡ guess → ⊥) → (k : Call) → (call_of w k).1 ≡ w
unfolding call_of
still w v (receive c piece) = go (fits w) (leb channel_count c) refl refl
  where
    go : (x y : Bool) → fits w ≡ x → leb channel_count c ≡ y → (receive_of w c piece).1 ≡ w
    go false y p q = ap (λ r. r.1) (first-row w c piece p)
    go true true p q = ap (λ r. r.1) (second-row w c piece p (leb-true channel_count c q))
    go true false p q = ap (λ r. r.1) (third-row w c p (leb-false channel_count c q) piece v)

stays_put : (w : World) → (verdict_of w ≡ guess → ⊥) → (ks : List Call) → after w ks ≡ w
unfolding fold_calls
stays_put w v [] = refl
stays_put w v (k ∷ ks) = ap (λ x. after x ks) (still w v k) ∙ stays_put w v ks

pub rows : Rows
rows =
    record {
      row_1 = first-row;
      row_2 = second-row;
      row_3 = λ w c piece e h v. third-row w c e h piece v;
      row_4 = λ w c b bs e h v s. fourth-row w c e h b bs v s;
      row_empty = λ w c e h v. empty-row w c e h v;
      row_taken = λ w c b bs e h v s. taken-row w c e h b bs v s;
      piece_none = bytes-none;
      piece_continues = bytes-goes;
      piece_stops = bytes-stops;
      piece_not_taken = bytes-leaves;
      by_19 = nineteen;
      one_more = one-more-call;
      stays = stays_put;
    }
