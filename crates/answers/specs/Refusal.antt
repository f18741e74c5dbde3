-- The number of each refusal and fault, and an answer by its number.
use Rattle.std.specs.Prelude.{ℕ, Result, Ok, Err}
use Rattle.answers.specs.declared.refusal.Refusal.{Refusal}
use Rattle.answers.specs.declared.refusal.Refusal.TheVariants.{Unfit, NoSuchChannel, Decided, ChannelEnded, StartLengths, MeaninglessBit, UnacceptedBit, ContradictingBits, SecondCount, CountOutOfRange, PastFileEnd, Overlap, LedgerFull, TooManyChannels, HeaderLength, LineTooLong, NoLineEnd, UnprintableByte, NoSuchVerb, Argument, ReplyCode, MalformedHostPort, TooManyHostPorts, HostListTooShort, MalformedRanges, TooFewPairs, LedgerLength, EmptyLedger, TooFewBytes, RecordLength, RecordKind, RecordPairs, TooManyPairs, PastFileLength, SenderArguments, NoSuchSendingChannel, NothingToSend}

abbrev pub number : Refusal → ℕ
number Unfit = 1
number NoSuchChannel = 2
number Decided = 3
number ChannelEnded = 4
number StartLengths = 5
number MeaninglessBit = 11
number UnacceptedBit = 12
number ContradictingBits = 13
number SecondCount = 14
number CountOutOfRange = 15
number PastFileEnd = 16
number Overlap = 17
number LedgerFull = 18
number TooManyChannels = 19
number HeaderLength = 21
number LineTooLong = 31
number NoLineEnd = 32
number UnprintableByte = 33
number NoSuchVerb = 34
number Argument = 35
number ReplyCode = 36
number MalformedHostPort = 41
number TooManyHostPorts = 42
number HostListTooShort = 43
number MalformedRanges = 51
number TooFewPairs = 52
number LedgerLength = 53
number EmptyLedger = 54
number TooFewBytes = 55
number RecordLength = 61
number RecordKind = 62
number RecordPairs = 63
number TooManyPairs = 64
number PastFileLength = 65
number SenderArguments = 71
number NoSuchSendingChannel = 73
number NothingToSend = 74

-- an answer with the number in place of the refusal
abbrev pub numbered : {A : Type 0} → Result A Refusal → Result A ℕ
numbered (Ok a) = Ok a
numbered (Err r) = Err (number r)

-- the number in an answer, 0 where nothing is refused
abbrev pub number_in : {A : Type 0} → Result A ℕ → ℕ
number_in (Ok a) = 0
number_in (Err k) = k

abbrev pub refusal_number : {A : Type 0} → Result A Refusal → ℕ
refusal_number r = number_in (numbered r)
