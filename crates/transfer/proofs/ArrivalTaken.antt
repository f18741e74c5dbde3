-- Where every byte of every piece is taken, a channel's bytes are its pieces joined.
use Prim.Native.Nat.{ℕ, zero, suc}
use mathlib.Core.Path.{◌≡◌, refl, sym, ap, ◌∙◌}
use mathlib.Core.Bool.{Bool, true, false, cond}
use mathlib.Core.List.{List, [], ◌∷◌, ◌++◌, append_assoc, append-nil}
use native.Mathlib.Omega.{arith}
use native.Mathlib.Decide.{ℕ_discrete}
use borrow.Author.Tests.{eq-eqb, ne_eqb}
use lib.Dec.{eqb}
use lib.ListN.{length, get_or, take, replicate}
use lib.Seq.{take-length, take-nil}
use Rattle.ledger.specs.Pairs.{Pairs}
use Rattle.transfer.specs.Channel.{channel_count}
use Rattle.transfer.specs.Transfer.{World}
use Rattle.transfer.specs.Receive.{Answer, refused, took}
use Rattle.transfer.specs.Calls.{Call, receive, call_of, fold_calls, after}
use Rattle.transfer.specs.Tally.{intact, taken, empty, stream_at}
use Rattle.transfer.specs.AfterList.{StartedWith, tally_of}
use Rattle.transfer.specs.EachCall.{Adds}
use Rattle.transfer.specs.Sending.{pieces_on}
use Rattle.transfer.specs.Arrivals.{AllTaken}
use Rattle.transfer.proofs.EachCall.{each_call}

module _ (w : World) (file : List ℕ) (R : ℕ) (before : Pairs) (begun : StartedWith w file R before) (ks : List Call) (whole : AllTaken w ks) where
  abbrev bytes_after : List Call → ℕ → List ℕ
  bytes_after pre c = taken (stream_at (tally_of (length file) R before pre) c)

  -- one more call adds its piece to its channel
  one_piece : (pre post : List Call) (d : ℕ) (piece : List ℕ) (c : ℕ) → ks ≡ pre ++ (receive d piece ∷ post)
      → bytes_after (pre ++ (receive d piece ∷ [])) c ≡ bytes_after pre c ++ cond (eqb d c) piece []
  one_piece pre post d piece c e = go (call_of (after w pre) (receive d piece)).0 refl
    where
      added : (n : ℕ) → (call_of (after w pre) (receive d piece)).0 ≡ took n → take n piece ≡ piece → bytes_after (pre ++ (receive d piece ∷ [])) c ≡ bytes_after pre c ++ cond (eqb d c) piece []
      added n a q = at (ℕ_discrete d c) (each_call.takes w file R before begun pre d piece n a)
        where
          at : Dec (d ≡ c) → Adds (tally_of (length file) R before pre) (tally_of (length file) R before (pre ++ (receive d piece ∷ []))) d piece n
              → bytes_after (pre ++ (receive d piece ∷ [])) c ≡ bytes_after pre c ++ cond (eqb d c) piece []
          at (yes p) m = rw (sym p, eq-eqb d d refl) (m.more ∙ ap (λ r. bytes_after pre d ++ r) q)
          at (no p) m = rw (ne_eqb d c p) (ap taken (m.others c (λ z. p (sym z))) ∙ sym (append-nil (bytes_after pre c)))

      go : (a : Answer) → (call_of (after w pre) (receive d piece)).0 ≡ a → bytes_after (pre ++ (receive d piece ∷ [])) c ≡ bytes_after pre c ++ cond (eqb d c) piece []
      go (took n) a = added n a (all_of piece e a)
        where
          same : (m k : ℕ) → took m ≡ took k → m ≡ k
          same m k z = cc

          all_of : (piece : List ℕ) → ks ≡ pre ++ (receive d piece ∷ post) → (call_of (after w pre) (receive d piece)).0 ≡ took n → take n piece ≡ piece
          all_of [] e a = take-nil n
          all_of (b ∷ bs) e a = ap (λ k. take k (b ∷ bs)) (same n (suc (length bs)) (sym a ∙ whole pre post d b bs e)) ∙ take-length (b ∷ bs)
      go (refused n) a = refused-piece piece e a
        where
          differ : (m k : ℕ) → refused m ≡ took k → ⊥
          differ m k z = let y : ◌≡◌ {A = ℕ} 0 1 = ap number z in omega (arith, y)
            where
              number : Answer → ℕ
              number (refused j) = 0
              number (took j) = 1

          none : (b : Bool) → ◌≡◌ {A = List ℕ} (cond b [] []) []
          none true = refl
          none false = refl

          refused-piece : (piece : List ℕ) → ks ≡ pre ++ (receive d piece ∷ post) → (call_of (after w pre) (receive d piece)).0 ≡ refused n
              → bytes_after (pre ++ (receive d piece ∷ [])) c ≡ bytes_after pre c ++ cond (eqb d c) piece []
          refused-piece [] e a =
              ap (λ t. taken (stream_at t c)) (each_call.refuses w file R before begun pre d [] n a).1 ∙ sym (ap (λ r. bytes_after pre c ++ r) (none (eqb d c)) ∙ append-nil (bytes_after pre c))
          refused-piece (b ∷ bs) e a = absurd (differ n (suc (length bs)) (sym a ∙ whole pre post d b bs e))

  from : (post pre : List Call) (c : ℕ) → ks ≡ pre ++ post → bytes_after pre c ++ pieces_on c post ≡ bytes_after ks c
  unfolding pieces_on
  from [] pre c e = append-nil (bytes_after pre c) ∙ ap (λ l. bytes_after l c) (sym (e ∙ append-nil pre))
  from (receive d piece ∷ post) pre c e =
      let next = pre ++ (receive d piece ∷ []) in
      let r = from post next c (e ∙ sym (append_assoc pre (receive d piece ∷ []) post)) in
      ap (λ r. bytes_after pre c ++ r) (joined (eqb d c)) ∙ sym (append_assoc (bytes_after pre c) (cond (eqb d c) piece []) (pieces_on c post))
      ∙ ap (λ x. x ++ pieces_on c post) (sym (one_piece pre post d piece c e)) ∙ r
    where
      joined : (b : Bool) → cond b (piece ++ pieces_on c post) (pieces_on c post) ≡ cond b piece [] ++ pieces_on c post
      joined true = refl
      joined false = refl

  pub pieces-taken : (c : ℕ) → pieces_on c ks ≡ taken (stream_at (tally_of (length file) R before ks) c)
  pieces-taken c = ap (λ x. x ++ pieces_on c ks) (sym (nothing c)) ∙ from ks [] c refl
    where
      at : (n c : ℕ) → taken (get_or (replicate n (intact [])) c (intact [])) ≡ []
      at zero c = refl
      at (suc n) zero = refl
      at (suc n) (suc c) = at n c

      nothing : (c : ℕ) → bytes_after [] c ≡ []
      nothing c = unfold fold_calls empty in at channel_count c
