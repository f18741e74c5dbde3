-- What the screen line says, as numbers.
use Rattle.std.specs.Prelude.{cond, Result, Ok, Err, List, [], ℕ}
use Rattle.transfer.specs.declared.state.Transfer.{Transfer}
use Rattle.transfer.specs.Transfer.{ended_of, World, world, verdict_of, stored_of, doubt_of}
use Rattle.transfer.specs.Fit.{fits_without_file}
use Rattle.verdicts.specs.Verdict.{from_verdict}
use Rattle.receiver.specs.declared.show.Shown.{Shown}

unfoldable pub numbers_of : World → Shown
numbers_of w =
    record {
      verdict = from_verdict (verdict_of w);
      ended = ended_of w.t;
      count = w.t.count;
      fault = w.t.fault;
      on = w.t.on;
      bytes = stored_of w;
      doubtful = doubt_of w;
    }

-- 1 where transfer and ledgers don't fit; none of the numbers looks at the file
unfoldable pub shown_of : Transfer → List ℕ → List ℕ → Result Shown ℕ
shown_of t claimed doubtful = cond (fits_without_file t claimed doubtful) (Ok (numbers_of (world t [] claimed doubtful))) (Err 1)
