-- What one pass over the channels finds: where they fit, how many are not unused and how many have ended; where they don't, nothing.
use Rattle.std.specs.Prelude.{Bool, cond, ◌&&◌, List, ℕ, Option, Some, None}
use Rattle.ledger.specs.Pairs.{ends_at_most}
use Rattle.ledger.specs.Ledger.{obeys, pairs_of}
use Rattle.transfer.specs.declared.state.Transfer.{Transfer}
use Rattle.transfer.specs.Transfer.{used_of, ended_of}
use Rattle.transfer.specs.Fit.{channels_fit, rests_apart}
use Rattle.channelchecks.specs.declared.report.FitReport.{FitReport}

-- of a transfer that fits or not
abbrev pub report_if : Bool → Transfer → Option FitReport
report_if b t = cond b (Some (record { used = used_of t; ended = ended_of t })) None

-- each channel fits, and no two payloads share a byte that is still to come
abbrev pub channels_fit_together : Transfer → List ℕ → Bool
channels_fit_together t claimed = channels_fit (pairs_of claimed) t.channels t.heads && rests_apart t.channels

-- the claimed ledger obeys its rule with no end above the file's length
abbrev pub ledger_fits : Transfer → List ℕ → Bool
ledger_fits t claimed = obeys claimed && ends_at_most t.len (pairs_of claimed)
