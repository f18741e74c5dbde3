-- `ScreenRows` holds.
use Prim.Native.Nat.{ℕ, ◌^◌, ◌≤◌, ◌<◌}
use mathlib.Core.Path.{◌≡◌, refl, ◌∙◌}
use mathlib.Core.Logic.{inl, inr}
use mathlib.Core.Bool.{true}
use mathlib.Core.List.{List, []}
use native.Mathlib.Omega.{arith}
use lib.ListN.{length, replicate}
use Rattle.octets.specs.Decimal.{digit_count_by, digit_count, in_digits, decimal}
use Rattle.octets.specs.Digits.{to_little_endian, to_big_endian}
use Rattle.answers.specs.Written.{Refuses}
use Rattle.answers.proofs.WrittenBy.{room-short, room-enough, refuses, writes}
use Rattle.ledger.specs.Pairs.{total, inside, all_inside, ends_at_most}
use Rattle.ledger.specs.Ledger.{largest, all_zero, obeys_from, obeys, pairs_of, has_pair}
use Rattle.transfer.specs.declared.state.Transfer.{Transfer}
use Rattle.transfer.specs.Transfer.{sum, ended_of, used_of, left_of, World, world, all_ended, is_doubted, verdict_of, stored_of, doubt_of}
use Rattle.transfer.specs.Fit.{empty_fits, channel_fits, channels_fit, apart, apart_from, rests_apart, count_fits, fault_fits, claimed_fits, doubtful_fits, fits_without_file}
use Rattle.transfer.specs.Fitting.{CountSays, FaultSays}
use Rattle.transfer.proofs.FitByChannel.{Together}
use Rattle.counts.proofs.Sum.{ended_all}
use Rattle.runs.proofs.Runs.{fits-some}
use Rattle.receiver.proofs.Shown.{claimed-most, doubtful-most}
use Rattle.screen.specs.Screen.{suspect_word, ended_word, of_word, bytes_word, doubtful_word, line_feed, count_text, ended_text, front_text, bytes_text, tail_text, line_text, line_of, line_for, screen_refusal, screen_of, screen_after}
use Rattle.screen.specs.ScreenRows.{fullest, whole_file, ScreenRows}
use Rattle.screen.proofs.Screen.{digits-most, line-most, not-fit, fit}

refused : (t : Transfer) (claimed doubtful out : List ℕ) (k : ℕ) → screen_refusal t claimed doubtful out ≡ k → 0 < k → Refuses (screen_of t claimed doubtful out) (screen_after t claimed doubtful out) out k
unfolding screen_of screen_after
refused t claimed doubtful out k e h = refuses (screen_refusal t claimed doubtful out) _ (line_for t claimed doubtful) out k e h

-- ---- how long it can be

line-80 : (t : Transfer) (claimed doubtful : List ℕ) → t.len ≤ largest → fits_without_file t claimed doubtful ≡ true → length (line_for t claimed doubtful) ≤ 80
unfolding line_of
line-80 t claimed doubtful s f =
    line-most 2 t.fault t.on (ended_of t) t.count (stored_of w) (doubt_of w)
    (digits-most 1 t.fault (faults g.fault).0) (digits-most 1 t.on (faults g.fault).1) (digits-most 1 (ended_of t) ended-few) (digits-most 1 t.count (counts g.count))
    stored-small doubt-small (verdict_of w)
  where
    w : World
    w = world t [] claimed doubtful

    g : Together (world t (replicate t.len 0) claimed doubtful)
    g = fits-some t claimed doubtful f

    faults : FaultSays t → (t.fault < 10 ^ 2) × (t.on < 10 ^ 2)
    faults (inl (a, b)) = (omega (arith, a), omega (arith, b))
    faults (inr (a, b, c)) = (omega (arith, b), omega (arith, c))

    counts : CountSays t → t.count < 10 ^ 2
    counts (inl a) = omega (arith, a)
    counts (inr (a, b, c)) = omega (arith, b)

    ended-few : ended_of t < 10 ^ 2
    ended-few = unfold ended_of in omega (arith, ended_all t.channels, g.channels)

    stored-small : stored_of w < 18446744073709551616
    stored-small = unfold stored_of in omega (arith, claimed-most t claimed doubtful f, s)

    doubt-small : doubt_of w < 18446744073709551616
    doubt-small = unfold doubt_of in omega (arith, doubtful-most t claimed doubtful f, s)

full-80 : (fits_without_file fullest whole_file whole_file ≡ true) × (length (line_for fullest whole_file whole_file) ≡ 80)
unfolding total inside all_inside ends_at_most all_zero obeys_from obeys pairs_of has_pair sum ended_of used_of left_of all_ended is_doubted verdict_of stored_of doubt_of empty_fits channel_fits channels_fit apart apart_from rests_apart count_fits fault_fits claimed_fits doubtful_fits fits_without_file digit_count_by digit_count in_digits decimal to_little_endian to_big_endian suspect_word ended_word of_word bytes_word doubtful_word line_feed count_text ended_text front_text bytes_text tail_text line_text line_of
full-80 = (refl, refl)

pub screen-rows : ScreenRows
unfolding screen_of screen_after
screen-rows =
    record {
      row_1 = λ t claimed doubtful out f. refused t claimed doubtful out 1 (not-fit t claimed doubtful out f) (omega arith);
      row_55 = λ t claimed doubtful out f h. refused t claimed doubtful out 55 (fit t claimed doubtful out f ∙ room-short (length (line_for t claimed doubtful)) out h) (omega arith);
      row_written = λ t claimed doubtful out f h.
          writes (screen_refusal t claimed doubtful out) _ (line_for t claimed doubtful) out (fit t claimed doubtful out f ∙ room-enough (length (line_for t claimed doubtful)) out h) refl;
      longest = line-80;
      longest_is = full-80;
    }
