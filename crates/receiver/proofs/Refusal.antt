-- The number by which a call is refused, test by test, and what a call answers by it.
use Prim.Native.Nat.{ℕ, suc, ◌≤◌, ◌<◌}
use mathlib.Core.Path.{◌≡◌, refl, ◌∙◌}
use mathlib.Core.Bool.{Bool, true, false, cond, not, ◌&&◌, ◌||◌, true≢false}
use mathlib.Core.List.{List, [], ◌∷◌}
use native.Mathlib.Omega.{arith}
use native.Mathlib.Decide.{dec_lt}
use borrow.Author.Tests.{lt-ltb, le-leb, lt-leb, eqb-true}
use lib.Dec.{ltb, eqb}
use lib.ListN.{length}
use Rattle.channelchecks.specs.FitReport.{report_if}
use Rattle.channelchecks.proofs.FitReportFields.{unfit-where, fit-where, used-where, ended-where}
use Rattle.std.specs.Prelude.{Some, None}
use Rattle.channelchecks.specs.declared.report.FitReport.{FitReport}
use Rattle.checks.specs.ReportOf.{report_with_file}
use Rattle.checks.proofs.ReportOf.{report-in}
use Rattle.transfer.specs.declared.state.Transfer.{Transfer}
use Rattle.transfer.specs.Channel.{channel_count, channel_at}
use Rattle.transfer.specs.Transfer.{used_of, ended_of, World, world, guess, result, suspect, broken, all_ended, is_doubted, verdict_of}
use Rattle.transfer.specs.Receive.{refused, is_guess, is_non_empty, refusal_of, receive_of}
use Rattle.transfer.specs.Fit.{fits}
use Rattle.runs.specs.Runs.{take_bytes_on}
use Rattle.runs.proofs.StateNumbers.{is-ended, not-ended}

-- ---- what the pass over the channels found

module _ (t : Transfer) (f claimed doubtful : List ℕ) where
  whole_is : report_with_file (length f) t claimed doubtful ≡ report_if (fits (world t f claimed doubtful)) t
  whole_is = report-in (length f) t claimed doubtful ∙ (unfold fits in refl)

  pub none-found : None ≡ report_with_file (length f) t claimed doubtful → fits (world t f claimed doubtful) ≡ false
  none-found e = unfit-where (fits (world t f claimed doubtful)) t (e ∙ whole_is)

  module _ (s : FitReport) (e : Some s ≡ report_with_file (length f) t claimed doubtful) where
    pub found-fits : fits (world t f claimed doubtful) ≡ true
    found-fits = fit-where (fits (world t f claimed doubtful)) t s (e ∙ whole_is)

    pub found-counts : (s.used ≡ used_of t) × (s.ended ≡ ended_of t)
    found-counts = (used-where (fits (world t f claimed doubtful)) t s (e ∙ whole_is), ended-where (fits (world t f claimed doubtful)) t s (e ∙ whole_is))

-- the verdict by the numbers that the code has
pub guess_is : (w : World) (ended : ℕ) → ended ≡ ended_of w.t → is_guess (verdict_of w) ≡ not (ltb 0 w.t.fault || (ltb 0 w.t.count && eqb ended w.t.count))
unfolding verdict_of all_ended
guess_is w ended e = rw e (go (ltb 0 w.t.fault) (ltb 0 w.t.count && eqb (ended_of w.t) w.t.count) (is_doubted w))
  where
    go : (a b d : Bool) → is_guess (cond a broken (cond b (cond d suspect result) guess)) ≡ not (a || b)
    go true b d = refl
    go false true true = refl
    go false true false = refl
    go false false d = refl

module _ (w : World) (c : ℕ) (piece : List ℕ) where
  pub refused-1 : fits w ≡ false → refusal_of w c piece ≡ 1
  unfolding refusal_of
  refused-1 f = rw f

  pub refused-2 : fits w ≡ true → channel_count ≤ c → refusal_of w c piece ≡ 2
  unfolding refusal_of
  refused-2 f h = rw (f, le-leb channel_count c h)

  module _ (f : fits w ≡ true) (h : c < channel_count) where
    pub refused-3 : is_guess (verdict_of w) ≡ false → refusal_of w c piece ≡ 3
    unfolding refusal_of
    refused-3 g = rw (f, lt-leb channel_count c h, g)

    module _ (g : is_guess (verdict_of w) ≡ true) where
      pub empty-taken : is_non_empty piece ≡ false → refusal_of w c piece ≡ 0
      unfolding refusal_of
      empty-taken s = rw (f, lt-leb channel_count c h, g, s)

      pub refused-4 : is_non_empty piece ≡ true → 4 ≤ (channel_at w.t c).state → refusal_of w c piece ≡ 4
      unfolding refusal_of
      refused-4 s q = rw (f, lt-leb channel_count c h, g, s, is-ended w.t c q)

      pub bytes-taken : is_non_empty piece ≡ true → (channel_at w.t c).state < 4 → refusal_of w c piece ≡ 0
      unfolding refusal_of
      bytes-taken s q = rw (f, lt-leb channel_count c h, g, s, not-ended w.t c q)

  -- ---- the answer

  pub is-refused : (n : ℕ) → n ≡ refusal_of w c piece → 0 < n → (refused n, w) ≡ receive_of w c piece
  unfolding receive_of
  is-refused n e h = rw (← e, lt-ltb 0 n h)

  pub is-taken : refusal_of w c piece ≡ 0 → take_bytes_on c w piece 0 ≡ receive_of w c piece
  unfolding receive_of
  is-taken e = rw e

  -- a call that is not refused is of a world that fits, on a channel that there is
  pub not-refused : refusal_of w c piece ≡ 0 → (fits w ≡ true) × (c < channel_count)
  not-refused e = go (fits w) refl (dec_lt c channel_count)
    where
      go : (b : Bool) → fits w ≡ b → Dec (c < channel_count) → (fits w ≡ true) × (c < channel_count)
      go false f d = absurd (omega (arith, e, refused-1 f))
      go true f (no d) = absurd (omega (arith, e, refused-2 f (omega arith)))
      go true f (yes d) = (f, d)

pub some_is : (piece : List ℕ) → eqb (length piece) 0 ≡ false → is_non_empty piece ≡ true
some_is [] e = absurd (true≢false e)
some_is (b ∷ bs) e = refl

pub empty_is : (piece : List ℕ) → eqb (length piece) 0 ≡ true → is_non_empty piece ≡ false
empty_is [] e = refl
empty_is (b ∷ bs) e = absurd (omega (arith, eqb-true (suc (length bs)) 0 e))
