-- The screen line's numbers as a host has them: all 0 where the line is refused.
use Rattle.std.specs.Prelude.{ℕ, Result, Ok, Err}
use Rattle.verdicts.specs.Verdict.{to_verdict}
use Rattle.receiver.specs.declared.show.Shown.{Shown}
use Rattle.host.specs.declared.calls.ScreenNumbers.{ScreenNumbers}
use Rattle.host.specs.Received.{verdict_code}

abbrev pub shown_by : Result Shown ℕ → ScreenNumbers
shown_by (Ok n) =
    record {
      ended = n.ended;
      count = n.count;
      fault = n.fault;
      on = n.on;
      bytes = n.bytes;
      doubtful = n.doubtful;
      verdict = verdict_code (to_verdict n.verdict);
      refused = 0;
    }
shown_by (Err k) = record { ended = 0; count = 0; fault = 0; on = 0; bytes = 0; doubtful = 0; verdict = 0; refused = k }
