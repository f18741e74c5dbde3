-- A call's runs, one after the other: what each leaves fits, and together they are its bytes.
use Rattle.std.proofs.Common.{◌≡◌, ℕ, ◌+◌, ◌<◌, ◌≤◌, Bool, true, false, eqb, ltb, List, [], ◌∷◌, ◌++◌, length, take, drop, sym, refl, ap, ◌∙◌, subst, true≢false, arith, take-append-drop, drop-drop, ltb-true, eqb-true}
use mathlib.Core.Bool.{and-eq-true_iff}
use Rattle.transfer.specs.declared.state.Transfer.{Transfer}
use Rattle.transfer.specs.Channel.{channel_count, channel_at, put_fault}
use Rattle.transfer.specs.Transfer.{used_of, World, world}
use Rattle.transfer.specs.Receive.{not_taken, took, take_byte_in, take_byte}
use Rattle.transfer.specs.Fit.{fits_without_file, fits}
use Rattle.transfer.proofs.ReceivePieces.{bytes-none, bytes-leaves}
use Rattle.transfer.proofs.Rows.{rows}
use Rattle.transfer.proofs.FitByChannel.{Together}
use Rattle.transfer.proofs.FitTests.{fits-together, together-fits}
use Rattle.transfer.proofs.Fitting.{piece-keeps}
use Rattle.verdicts.specs.Verdict.{count_reached}
use Rattle.runs.specs.Runs.{take_bytes_on, RunOf}
use Rattle.runs.proofs.StateNumbers.{is-unused, is-ended}

pub fits-parts : (t : Transfer) (file claimed doubtful : List ℕ) → fits (world t file claimed doubtful) ≡ true → (length file ≡ t.len) × (fits_without_file t claimed doubtful ≡ true)
unfolding fits
fits-parts t file claimed doubtful e = let a = (and-eq-true_iff (eqb (length file) t.len) (fits_without_file t claimed doubtful)).0 e in (eqb-true (length file) t.len a.0, a.1)

-- ---- runs that take nothing

nothing-taken : (c : ℕ) (w v : World) (b : ℕ) (bs : List ℕ) → take_byte w c b ≡ not_taken v → RunOf c w (b ∷ bs) v 0 false
nothing-taken c w v b bs e =
    record {
      if_continues = λ o. absurd (true≢false (sym o));
      if_stops = λ o k. let z : k ≡ k + 0 = omega arith in bytes-leaves (λ u x. take_byte u c x) w v b bs k e ∙ ap (λ n. (took n, v)) z;
    }

-- 19
pub count-reached-run-of : (t : Transfer) (file claimed doubtful : List ℕ) (c : ℕ) (piece : List ℕ) → 0 < length piece → (channel_at t c).state ≡ 0 → count_reached t.count (used_of t) ≡ true
    → RunOf c (world t file claimed doubtful) piece (world (put_fault t 19 c) file claimed doubtful) 0 false
count-reached-run-of t file claimed doubtful c [] h s e = absurd (omega arith)
count-reached-run-of t file claimed doubtful c (b ∷ bs) h s e =
    let a = (and-eq-true_iff (ltb 0 t.count) (eqb (used_of t) t.count)).0 e in
    nothing-taken c (world t file claimed doubtful) (world (put_fault t 19 c) file claimed doubtful) b bs (rows.by_19 (world t file claimed doubtful) c b (is-unused t c s) (ltb-true 0 t.count a.0) (eqb-true (used_of t) t.count a.1))

-- an ended channel
pub ended-run-of : (t : Transfer) (file claimed doubtful : List ℕ) (c : ℕ) (piece : List ℕ) → 0 < length piece → 4 ≤ (channel_at t c).state → RunOf c (world t file claimed doubtful) piece (world t file claimed doubtful) 0 false
ended-run-of t file claimed doubtful c [] h s = absurd (omega arith)
ended-run-of t file claimed doubtful c (b ∷ bs) h s = nothing-taken c (world t file claimed doubtful) (world t file claimed doubtful) b bs left
  where
    left : take_byte (world t file claimed doubtful) c b ≡ not_taken (world t file claimed doubtful)
    left = unfold take_byte in rw (is-ended t c s) (unfold take_byte_in in refl)

-- ---- one run after the others: i bytes were taken before it

module _ (c : ℕ) (h : c < channel_count) (w v : World) (piece : List ℕ) (i n : ℕ) (continues : Bool) (r : RunOf c w (drop i piece) v n continues) where
  pub further : continues ≡ true → take_bytes_on c w (drop i piece) i ≡ take_bytes_on c v (drop (i + n) piece) (i + n)
  further o =
      let e : n + i ≡ i + n = omega arith in
      ap (λ x. take_bytes_on c w x i) (sym (take-append-drop n (drop i piece))) ∙ r.if_continues o (drop n (drop i piece)) i ∙ ap (λ x. take_bytes_on c v x (i + n)) (drop-drop n i piece)

  pub stopped : continues ≡ false → take_bytes_on c w (drop i piece) i ≡ (took (i + n), v)
  stopped o = r.if_stops o i

  pub still-fits : continues ≡ true → fits w ≡ true → fits v ≡ true
  still-fits o f =
      together-fits v
      (subst Together (ap (λ x. x.1) (r.if_continues o [] 0 ∙ bytes-none (λ u x. take_byte u c x) v (0 + n)))
      (piece-keeps c h (take n (drop i piece) ++ []) w 0 (fits-together w f)))
