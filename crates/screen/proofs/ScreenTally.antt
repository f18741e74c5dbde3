-- `ScreenTally` holds.
use Prim.Native.Nat.{ℕ}
use mathlib.Core.Path.{◌≡◌, refl, ap, ◌∙◌}
use mathlib.Core.Bool.{true}
use mathlib.Core.List.{List, []}
use lib.ListN.{length}
use Rattle.answers.specs.Written.{room_refusal, written_by, written_after}
use Rattle.ledger.specs.Pairs.{Pairs}
use Rattle.transfer.specs.Transfer.{World, world, is_doubted, verdict_of, stored_of, doubt_of}
use Rattle.transfer.specs.Fit.{fits_without_file}
use Rattle.transfer.specs.Calls.{Call, after}
use Rattle.transfer.specs.Tally.{tally_verdict}
use Rattle.transfer.specs.AfterList.{StartedWith, tally_of, AfterList}
use Rattle.transfer.proofs.TallyCalls.{verdict-is}
use Rattle.transfer.proofs.TallyFromStart.{along, world-along}
use Rattle.transfer.proofs.AfterList.{every_list}
use Rattle.std.specs.Prelude.{Result, Ok}
use Rattle.receiver.specs.declared.show.Shown.{Shown}
use Rattle.receiver.specs.Shown.{numbers_of, shown_of}
use Rattle.runs.proofs.CallRuns.{fits-parts}
use Rattle.screen.specs.Screen.{line_of, line_for, screen_refusal, screen_of, screen_after}
use Rattle.screen.specs.ScreenTally.{tally_line, tally_shown, ScreenTally}
use Rattle.screen.proofs.Screen.{fit}

module _ (w : World) (file : List ℕ) (R : ℕ) (before : Pairs) (b : StartedWith w file R before) (ks : List Call) where
  list : AfterList R before file (after w ks) (tally_of (length file) R before ks)
  list = every_list.after_list w file R before b ks

  shows : verdict_of (after w ks) ≡ tally_verdict (tally_of (length file) R before ks)
  shows = ap verdict_of (world-along w file R before b ks) ∙ verdict-is (length file) R before file (tally_of (length file) R before ks) (along w file R before b ks).kept

  says : line_of (after w ks) ≡ tally_line before (tally_of (length file) R before ks)
  unfolding line_of tally_line
  says = rw (shows, list.fault_is.0, list.fault_is.1, list.ended_is, list.count_is, list.bytes_are, list.doubt_is)

  -- the line doesn't look at the file
  no-file : line_for (after w ks).t (after w ks).lent.claimed (after w ks).lent.doubtful ≡ line_of (after w ks)
  no-file = unfold line_of verdict_of is_doubted stored_of doubt_of in refl

  fits-here : (length (after w ks).lent.file ≡ (after w ks).t.len) × (fits_without_file (after w ks).t (after w ks).lent.claimed (after w ks).lent.doubtful ≡ true)
  fits-here = fits-parts (after w ks).t (after w ks).lent.file (after w ks).lent.claimed (after w ks).lent.doubtful list.fits_still

  line-here : line_for (after w ks).t (after w ks).lent.claimed (after w ks).lent.doubtful ≡ tally_line before (tally_of (length file) R before ks)
  line-here = no-file ∙ says

  number-here : (out : List ℕ) → screen_refusal (after w ks).t (after w ks).lent.claimed (after w ks).lent.doubtful out ≡ room_refusal (length (tally_line before (tally_of (length file) R before ks))) out
  number-here out = fit (after w ks).t (after w ks).lent.claimed (after w ks).lent.doubtful out fits-here.1 ∙ rw line-here

  -- nor do the numbers
  numbers-here : shown_of (after w ks).t (after w ks).lent.claimed (after w ks).lent.doubtful ≡ Ok (tally_shown before (tally_of (length file) R before ks))
  unfolding shown_of
  numbers-here = rw fits-here.1 (ap {B = Result Shown ℕ} Ok (no-file-numbers ∙ are))
    where
      no-file-numbers : numbers_of (world (after w ks).t [] (after w ks).lent.claimed (after w ks).lent.doubtful) ≡ numbers_of (after w ks)
      no-file-numbers = unfold numbers_of verdict_of is_doubted stored_of doubt_of in refl

      are : numbers_of (after w ks) ≡ tally_shown before (tally_of (length file) R before ks)
      are = unfold numbers_of tally_shown in rw (shows, list.fault_is.0, list.fault_is.1, list.ended_is, list.count_is, list.bytes_are, list.doubt_is)

  answer-here : (out : List ℕ)
      → let line = tally_line before (tally_of (length file) R before ks) in
      screen_of (after w ks).t (after w ks).lent.claimed (after w ks).lent.doubtful out ≡ written_by (room_refusal (length line) out) (length line)
  unfolding screen_of
  answer-here out = rw (number-here out, line-here)

  after-here : (out : List ℕ)
      → let line = tally_line before (tally_of (length file) R before ks) in
      screen_after (after w ks).t (after w ks).lent.claimed (after w ks).lent.doubtful out ≡ written_after (room_refusal (length line) out) line out
  unfolding screen_after
  after-here out = rw (number-here out, line-here)

pub screen-tally : ScreenTally
screen-tally =
    record {
      line_is = says;
      answer_is = answer-here;
      after_is = after-here;
      numbers_are = numbers-here;
    }
