-- `Fitting` holds.
use Prim.Native.Nat.{ℕ, suc, ◌<◌}
use mathlib.Core.Path.{◌≡◌, refl}
use mathlib.Core.Logic.{◌↔◌, ◌≢◌}
use mathlib.Core.Bool.{Bool, true, false, cond}
use mathlib.Core.List.{List, [], ◌∷◌}
use native.Mathlib.Omega.{arith}
use borrow.Author.Tests.{leb-true, leb-false}
use lib.Dec.{leb, ltb}
use lib.ListN.{length, replicate, length-replicate}
use Rattle.ledger.proofs.Ledgers.{ledgers}
use Rattle.transfer.specs.declared.state.Transfer.{Transfer}
use Rattle.transfer.specs.Channel.{channel_count}
use Rattle.transfer.specs.Transfer.{used_of, ended_of, sum, World, world, is_doubted, doubt_of}
use Rattle.transfer.specs.Receive.{Outcome, continues, stops, not_taken, after_byte, refused, take_bytes, take_byte, refusal_of, receive_of}
use Rattle.transfer.specs.Calls.{Call, receive, call_of}
use Rattle.transfer.specs.Fit.{fits_without_file}
use Rattle.transfer.specs.Fitting.{Fit, EndsBelowCount, Fitting}
use Rattle.transfer.proofs.ReceivePieces.{bytes-none, bytes-goes, bytes-stops, bytes-leaves}
use Rattle.transfer.proofs.Rows.{rows}
use Rattle.transfer.proofs.FitByChannel.{Together, together-fit, fit-together}
use Rattle.transfer.proofs.FitTests.{ledger-together, together-ledger, fits-together, together-fits}
use Rattle.transfer.proofs.FitUsed.{one_if_used, used-sum}
use Rattle.transfer.proofs.FitKept.{byte_keeps}
use Rattle.transfer.proofs.FitEnds.{byte_ends}

doubted_is : (w : World) → Fit w → (is_doubted w ≡ true) ↔ (0 < doubt_of w)
unfolding is_doubted doubt_of
doubted_is w f = ledgers.pair_bytes_is w.lent.doubtful (fit-together w f).doubtful_rule

used_are : (w : World) → Fit w → used_of w.t ≡ sum one_if_used w.t.channels
unfolding used_of ended_of
used_are w f = used-sum w.t.channels (λ c g. f.states c (omega (arith, f.channels)))

pub piece-keeps : (c : ℕ) → c < channel_count → (piece : List ℕ) (w : World) (k : ℕ) → Together w → Together (take_bytes (λ v b. take_byte v c b) w piece k).1
piece-keeps c h [] w k f = rw (bytes-none (λ v b. take_byte v c b) w k) f
piece-keeps c h (b ∷ bs) w k f = go (take_byte w c b) refl (byte_keeps c h w b f) (λ v. piece-keeps c h bs v (suc k))
  where
    go : (t : Outcome World) → take_byte w c b ≡ t → Together (after_byte t) → ((v : World) → Together v → Together (take_bytes (λ u x. take_byte u c x) v bs (suc k)).1)
        → Together (take_bytes (λ u x. take_byte u c x) w (b ∷ bs) k).1
    go (continues v) e g i = rw (bytes-goes (λ u x. take_byte u c x) w v b bs k e) (i v g)
    go (stops v) e g i = rw (bytes-stops (λ u x. take_byte u c x) w v b bs k e) g
    go (not_taken v) e g i = rw (bytes-leaves (λ u x. take_byte u c x) w v b bs k e) g

call_keeps : (w : World) (k : Call) → Together w → Together (call_of w k).1
unfolding call_of
call_keeps w (receive c piece) f = go (leb channel_count c) refl
  where
    go : (t : Bool) → leb channel_count c ≡ t → Together (receive_of w c piece).1
    go true e = rw (rows.row_2 w c piece (together-fits w f) (leb-true channel_count c e)) f
    go false e = unfold receive_of in taken (ltb 0 (refusal_of w c piece))
      where
        taken : (t : Bool) → Together (cond t (refused (refusal_of w c piece), w) (take_bytes (λ v b. take_byte v c b) w piece 0)).1
        taken true = f
        taken false = piece-keeps c (leb-false channel_count c e) piece w 0 f

call_ends : (w : World) (c b : ℕ) (bs : List ℕ) → Fit w → c < channel_count
    → let v = (take_bytes (λ u x. take_byte u c x) w bs 0).1 in EndsBelowCount v (after_byte (take_byte v c b)) c
call_ends w c b bs f h = byte_ends (take_bytes (λ u x. take_byte u c x) w bs 0).1 c b (piece-keeps c h bs w 0 (fit-together w f)) h

lt-ne : (a b : ℕ) → a < b → a ≢ b
lt-ne a b h e = omega (arith, h, e)

-- a file of as many zeros will do
fits-without-file : (t : Transfer) (claimed doubtful : List ℕ)
    → (fits_without_file t claimed doubtful ≡ true) ↔ ((file : List ℕ) → length file ≡ t.len → Fit (world t file claimed doubtful))
fits-without-file t claimed doubtful =
    let some : List ℕ = replicate t.len 0 in
    let w = world t some claimed doubtful in (
      (λ e file l. together-fit (world t file claimed doubtful) (ledger-together (world t file claimed doubtful) e l)),
      (λ f. together-ledger w (fit-together w (f some (length-replicate t.len 0)))),
    )

pub fitting : Fitting
fitting =
    record {
      without_file = fits-without-file;
      says = λ w. (λ e. together-fit w (fits-together w e), λ f. together-fits w (fit-together w f));
      doubted_is = doubted_is;
      used_are = used_are;
      byte_keeps = λ w c b f h. together-fit (after_byte (take_byte w c b)) (byte_keeps c h w b (fit-together w f));
      call_keeps = λ w k f. together-fit (call_of w k).1 (call_keeps w k (fit-together w f));
      byte_ends = λ w c b f h. byte_ends w c b (fit-together w f) h;
      call_ends = call_ends;
      never_too_many = λ w c b bs f h a e n. lt-ne _ _ (call_ends w c b bs f h a e n);
    }
