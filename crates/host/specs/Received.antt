-- What receive leaves, as a host has it: numbers in place of cases.
use Rattle.std.specs.Prelude.{ℕ}
use Rattle.transfer.specs.Transfer.{World, Verdict, guess, result, suspect, broken, verdict_of}
use Rattle.transfer.specs.Receive.{Answer, refused, took}
use Rattle.host.specs.declared.calls.Received.{Received}

abbrev pub verdict_code : Verdict → ℕ
verdict_code guess = 0
verdict_code result = 1
verdict_code broken = 2
verdict_code suspect = 3

-- none where the call is refused
abbrev pub taken_in : Answer → ℕ
taken_in (took n) = n
taken_in (refused k) = 0

-- 0 where it is not refused
abbrev pub refusal_in : Answer → ℕ
refusal_in (took n) = 0
refusal_in (refused k) = k

-- the answer, and the world that the call leaves; the verdict is that of this world, by a refusal too
abbrev pub received_by : Answer × World → Received
received_by x =
    record { transfer = x.1.t; taken = taken_in x.0; verdict = verdict_code (verdict_of x.1); refused = refusal_in x.0 }
