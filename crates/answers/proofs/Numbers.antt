-- Refusals have different numbers, all above 0.
use Rattle.std.specs.Prelude.{ℕ, ◌≡◌, ◌<◌, cond, eqb}
use Rattle.std.proofs.Common.{sym, ◌∙◌, ap, refl, arith}
use Rattle.answers.specs.Refusal.{number}
use Rattle.answers.specs.declared.refusal.Refusal.{Refusal}
use Rattle.answers.specs.declared.refusal.Refusal.TheVariants.{Unfit, NoSuchChannel, Decided, ChannelEnded, StartLengths, MeaninglessBit, UnacceptedBit, ContradictingBits, SecondCount, CountOutOfRange, PastFileEnd, Overlap, LedgerFull, TooManyChannels, HeaderLength, LineTooLong, NoLineEnd, UnprintableByte, NoSuchVerb, Argument, ReplyCode, MalformedHostPort, TooManyHostPorts, HostListTooShort, MalformedRanges, TooFewPairs, LedgerLength, EmptyLedger, TooFewBytes, RecordLength, RecordKind, RecordPairs, TooManyPairs, PastFileLength, SenderArguments, NoSuchSendingChannel, NothingToSend}

-- the refusal with this number
with_number : ℕ → Refusal
with_number n =
    cond (eqb n 1) Unfit (
    cond (eqb n 2) NoSuchChannel (
    cond (eqb n 3) Decided (
    cond (eqb n 4) ChannelEnded (
    cond (eqb n 5) StartLengths (
    cond (eqb n 11) MeaninglessBit (
    cond (eqb n 12) UnacceptedBit (
    cond (eqb n 13) ContradictingBits (
    cond (eqb n 14) SecondCount (
    cond (eqb n 15) CountOutOfRange (
    cond (eqb n 16) PastFileEnd (
    cond (eqb n 17) Overlap (
    cond (eqb n 18) LedgerFull (
    cond (eqb n 19) TooManyChannels (
    cond (eqb n 21) HeaderLength (
    cond (eqb n 31) LineTooLong (
    cond (eqb n 32) NoLineEnd (
    cond (eqb n 33) UnprintableByte (
    cond (eqb n 34) NoSuchVerb (
    cond (eqb n 35) Argument (
    cond (eqb n 36) ReplyCode (
    cond (eqb n 41) MalformedHostPort (
    cond (eqb n 42) TooManyHostPorts (
    cond (eqb n 43) HostListTooShort (
    cond (eqb n 51) MalformedRanges (
    cond (eqb n 52) TooFewPairs (
    cond (eqb n 53) LedgerLength (
    cond (eqb n 54) EmptyLedger (
    cond (eqb n 55) TooFewBytes (
    cond (eqb n 61) RecordLength (
    cond (eqb n 62) RecordKind (
    cond (eqb n 63) RecordPairs (
    cond (eqb n 64) TooManyPairs (
    cond (eqb n 65) PastFileLength (
    cond (eqb n 71) SenderArguments (
    cond (eqb n 73) NoSuchSendingChannel (
    NothingToSend))))))))))))))))))))))))))))))))))))

back : (r : Refusal) → with_number (number r) ≡ r
unfolding with_number
back Unfit = refl
back NoSuchChannel = refl
back Decided = refl
back ChannelEnded = refl
back StartLengths = refl
back MeaninglessBit = refl
back UnacceptedBit = refl
back ContradictingBits = refl
back SecondCount = refl
back CountOutOfRange = refl
back PastFileEnd = refl
back Overlap = refl
back LedgerFull = refl
back TooManyChannels = refl
back HeaderLength = refl
back LineTooLong = refl
back NoLineEnd = refl
back UnprintableByte = refl
back NoSuchVerb = refl
back Argument = refl
back ReplyCode = refl
back MalformedHostPort = refl
back TooManyHostPorts = refl
back HostListTooShort = refl
back MalformedRanges = refl
back TooFewPairs = refl
back LedgerLength = refl
back EmptyLedger = refl
back TooFewBytes = refl
back RecordLength = refl
back RecordKind = refl
back RecordPairs = refl
back TooManyPairs = refl
back PastFileLength = refl
back SenderArguments = refl
back NoSuchSendingChannel = refl
back NothingToSend = refl

pub apart : (r s : Refusal) → number r ≡ number s → r ≡ s
apart r s e = sym (back r) ∙ ap with_number e ∙ back s

pub above_0 : (r : Refusal) → 0 < number r
above_0 Unfit = omega arith
above_0 NoSuchChannel = omega arith
above_0 Decided = omega arith
above_0 ChannelEnded = omega arith
above_0 StartLengths = omega arith
above_0 MeaninglessBit = omega arith
above_0 UnacceptedBit = omega arith
above_0 ContradictingBits = omega arith
above_0 SecondCount = omega arith
above_0 CountOutOfRange = omega arith
above_0 PastFileEnd = omega arith
above_0 Overlap = omega arith
above_0 LedgerFull = omega arith
above_0 TooManyChannels = omega arith
above_0 HeaderLength = omega arith
above_0 LineTooLong = omega arith
above_0 NoLineEnd = omega arith
above_0 UnprintableByte = omega arith
above_0 NoSuchVerb = omega arith
above_0 Argument = omega arith
above_0 ReplyCode = omega arith
above_0 MalformedHostPort = omega arith
above_0 TooManyHostPorts = omega arith
above_0 HostListTooShort = omega arith
above_0 MalformedRanges = omega arith
above_0 TooFewPairs = omega arith
above_0 LedgerLength = omega arith
above_0 EmptyLedger = omega arith
above_0 TooFewBytes = omega arith
above_0 RecordLength = omega arith
above_0 RecordKind = omega arith
above_0 RecordPairs = omega arith
above_0 TooManyPairs = omega arith
above_0 PastFileLength = omega arith
above_0 SenderArguments = omega arith
above_0 NoSuchSendingChannel = omega arith
above_0 NothingToSend = omega arith
