-- `Chunks` holds: whatever way a recording is cut, what is handed back is the printed text.
use Prim.Native.Nat.{ℕ, ◌+◌, ◌*◌}
use mathlib.Core.Path.{◌≡◌, refl, ap, ◌∙◌}
use mathlib.Core.List.{List, ◌++◌}
use native.Mathlib.Omega.{arith}
use lib.ListN.{length}
use Rattle.answers.specs.Written.{room_refusal}
use Rattle.transfer.specs.Transfer.{World}
use Rattle.nights.specs.Reading.{joined, read}
use Rattle.nights.specs.Night.{transferring, night, before_first, after, so_far, printed}
use Rattle.recordings.specs.Kept.{world_in, library, Kept, replay_state_of, feed_refusal, finish_text}
use Rattle.recordings.specs.Chunks.{feeds, Begun, Counted, Chunks}
use Rattle.recordings.proofs.Unfinished.{read-rest}
use Rattle.recordings.proofs.Agreement.{AgreeReading, agree-read}
use Rattle.nights.proofs.Night.{numbers-few}
use Rattle.nights.proofs.ReadingEnd.{end_text-line}
use Rattle.recordings.proofs.Feeding.{feeds-read, finish-holds}

module _ (k : Kept) (cs : List (List ℕ)) (b : Begun k) where
  refused_by : (chunk out : List ℕ) → feed_refusal (feeds k cs).1 chunk out ≡ room_refusal (192 + 16 * length chunk) out
  unfolding feed_refusal
  refused_by chunk out = rw ((feeds-read k cs b).1.rest_is, (read-rest library (replay_state_of k) (joined cs)).0)

  module _ (n : Counted (joined cs)) where
    agrees : AgreeReading (read library (replay_state_of k) (joined cs)) (after (joined cs))
    agrees = agree-read (joined cs) (replay_state_of k) before_first (record { number_is = b.first; running_is = b.no_start }) n

    after_chunk : (feeds k cs).0 ≡ so_far (joined cs)
    unfolding so_far
    after_chunk = (feeds-read k cs b).0 ∙ agrees.text_is

    at_end : (feeds k cs).0 ++ finish_text (feeds k cs).1.session ≡ printed (joined cs)
    unfolding printed
    at_end =
        let r = read library (replay_state_of k) (joined cs) in
        let f = finish-holds (feeds k cs).1 r (feeds-read k cs b).1 (read-rest library (replay_state_of k) (joined cs)) in
        rw (after_chunk, f, agrees.rest_is, agrees.left_agree.number_is, end_text-line night (after (joined cs)))

    kept_is : (w : World) → (after (joined cs)).left.running ≡ transferring w → world_in (replay_state_of (feeds k cs).1) ≡ w
    kept_is w e = ap world_in (feeds-read k cs b).1.state_is ∙ (rw e at agrees.left_agree.running_is).1

pub chunks : Chunks
chunks =
    record {
      begins = λ held file claimed doubtful. record { first = refl; no_start = refl; none_held = refl; reads_on = refl };
      counted = λ bytes h. omega (arith, numbers-few bytes, h);
      after_chunk = after_chunk;
      at_end = at_end;
      kept_is = λ k cs w b n e. kept_is k cs b n w e;
      stops_is = λ k cs b n. (feeds-read k cs b).1.stopped_is ∙ (agrees k cs b n).stopped_is;
      held_few = λ k cs b. omega (arith, (feeds-read k cs b).1.held_is, (read-rest library (replay_state_of k) (joined cs)).1);
      refused_by = λ k cs chunk out b. refused_by k cs b chunk out;
    }
