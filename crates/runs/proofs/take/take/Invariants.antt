-- `take::take`: the bytes taken by the runs so far, and those after them, are all.
use Rattle.std.proofs.Common.{◌≡◌, ◌-◌, ◌≤◌, true, length, drop}
use Rattle.transfer.specs.declared.state.Transfer.{Transfer}
use Rattle.transfer.specs.Transfer.{world}
use Rattle.transfer.specs.Fit.{fits}
use Rattle.channels.specs.ChannelState.{write_back}
use Rattle.channels.specs.OtherChannels.{CountsOthers}
use Rattle.runs.specs.Runs.{take_bytes_on}
use Rattle.runs.proofs.take.take.Given as goal

abbrev pub invariant-loop-taken : goal.invariant-loop-taken
invariant-loop-taken l =
    (l.taken ≤ length l.piece)
    × (length l.file ≡ length l.initial.file)
    × (length l.claimed ≡ length l.initial.claimed)
    × (length l.doubtful ≡ length l.initial.doubtful)
    × ((t : Transfer) → CountsOthers t l.c l.o → fits (world (write_back t l.c l.initial.channel) l.initial.file l.initial.claimed l.initial.doubtful) ≡ true
    → (fits (world (write_back t l.c l.channel) l.file l.claimed l.doubtful) ≡ true) × (take_bytes_on l.c (world (write_back t l.c l.initial.channel) l.initial.file l.initial.claimed l.initial.doubtful) l.piece 0 ≡ take_bytes_on l.c (world (write_back t l.c l.channel) l.file l.claimed l.doubtful) (drop l.taken l.piece) l.taken))

abbrev pub decreases-loop-taken : goal.decreases-loop-taken
decreases-loop-taken l = length l.piece - l.taken
