-- The screen line (document 01, "The screen line"; document 02, Item 3).
use Rattle.std.specs.Prelude.{ℕ, zero, suc, cond, not, List, [], ◌∷◌, ◌++◌, length}
use Rattle.octets.specs.Decimal.{decimal}
use Rattle.answers.specs.Written.{Written, room_refusal, written_by, written_after}
use Rattle.transfer.specs.declared.state.Transfer.{Transfer}
use Rattle.transfer.specs.Transfer.{ended_of, World, world, Verdict, guess, result, suspect, broken, verdict_of, stored_of, doubt_of}
use Rattle.transfer.specs.Fit.{fits_without_file}
use Rattle.verdicts.specs.Verdict.{to_verdict}
use Rattle.receiver.specs.declared.show.Shown.{Shown}

-- ---- words

-- "BROKEN ", " on "
unfoldable pub broken_word : List ℕ
broken_word = 66 ∷ 82 ∷ 79 ∷ 75 ∷ 69 ∷ 78 ∷ 32 ∷ []

unfoldable pub on_word : List ℕ
on_word = 32 ∷ 111 ∷ 110 ∷ 32 ∷ []

-- "GUESS", "RESULT", "SUSPECT", " ended ", " of ", "?"
unfoldable pub guess_word : List ℕ
guess_word = 71 ∷ 85 ∷ 69 ∷ 83 ∷ 83 ∷ []

unfoldable pub result_word : List ℕ
result_word = 82 ∷ 69 ∷ 83 ∷ 85 ∷ 76 ∷ 84 ∷ []

unfoldable pub suspect_word : List ℕ
suspect_word = 83 ∷ 85 ∷ 83 ∷ 80 ∷ 69 ∷ 67 ∷ 84 ∷ []

unfoldable pub ended_word : List ℕ
ended_word = 32 ∷ 101 ∷ 110 ∷ 100 ∷ 101 ∷ 100 ∷ 32 ∷ []

unfoldable pub of_word : List ℕ
of_word = 32 ∷ 111 ∷ 102 ∷ 32 ∷ []

unfoldable pub unknown_word : List ℕ
unknown_word = 63 ∷ []

-- " bytes ", " doubtful ", LF
unfoldable pub bytes_word : List ℕ
bytes_word = 32 ∷ 98 ∷ 121 ∷ 116 ∷ 101 ∷ 115 ∷ 32 ∷ []

unfoldable pub doubtful_word : List ℕ
doubtful_word = 32 ∷ 100 ∷ 111 ∷ 117 ∷ 98 ∷ 116 ∷ 102 ∷ 117 ∷ 108 ∷ 32 ∷ []

unfoldable pub line_feed : List ℕ
line_feed = 10 ∷ []

-- ---- the line

-- the count, or "?" while it is unknown
unfoldable pub count_text : ℕ → List ℕ
count_text zero = unknown_word
count_text (suc n) = decimal (suc n)

unfoldable pub broken_text : ℕ → ℕ → List ℕ
broken_text fault on = broken_word ++ decimal fault ++ on_word ++ decimal on

unfoldable pub ended_text : ℕ → ℕ → List ℕ
ended_text ended count = ended_word ++ decimal ended ++ of_word ++ count_text count

-- what is before the stored bytes: fault and channel, or how many channels have ended and the count
unfoldable pub front_text : Verdict → ℕ → ℕ → ℕ → ℕ → List ℕ
front_text broken fault on ended count = broken_text fault on
front_text guess fault on ended count = guess_word ++ ended_text ended count
front_text result fault on ended count = result_word ++ ended_text ended count
front_text suspect fault on ended count = suspect_word ++ ended_text ended count

unfoldable pub bytes_text : ℕ → List ℕ
bytes_text bytes = bytes_word ++ decimal bytes

-- what is after them: only SUSPECT says how many bytes are doubtful
unfoldable pub tail_text : Verdict → ℕ → List ℕ
tail_text broken doubt = line_feed
tail_text guess doubt = line_feed
tail_text result doubt = line_feed
tail_text suspect doubt = doubtful_word ++ decimal doubt ++ line_feed

-- a verdict, a fault and its channel, the channels that have ended, the count, the stored bytes, and the doubtful ones
unfoldable pub line_text : Verdict → ℕ → ℕ → ℕ → ℕ → ℕ → ℕ → List ℕ
line_text v fault on ended count bytes doubt = front_text v fault on ended count ++ bytes_text bytes ++ tail_text v doubt

unfoldable pub line_of : World → List ℕ
line_of w = line_text (verdict_of w) w.t.fault w.t.on (ended_of w.t) w.t.count (stored_of w) (doubt_of w)

-- nothing in it looks at the file
abbrev pub line_for : Transfer → List ℕ → List ℕ → List ℕ
line_for t claimed doubtful = line_of (world t [] claimed doubtful)

-- ---- written into lent bytes

-- 1 where transfer and ledgers don't fit, then 55; 0 where the line is written
unfoldable pub screen_refusal : Transfer → List ℕ → List ℕ → List ℕ → ℕ
screen_refusal t claimed doubtful out = cond (not (fits_without_file t claimed doubtful)) 1 (room_refusal (length (line_for t claimed doubtful)) out)

unfoldable pub screen_of : Transfer → List ℕ → List ℕ → List ℕ → Written
screen_of t claimed doubtful out = written_by (screen_refusal t claimed doubtful out) (length (line_for t claimed doubtful))

unfoldable pub screen_after : Transfer → List ℕ → List ℕ → List ℕ → List ℕ
screen_after t claimed doubtful out = written_after (screen_refusal t claimed doubtful out) (line_for t claimed doubtful) out

-- ---- as the code holds it

abbrev pub front_text_of : Shown → List ℕ
front_text_of n = front_text (to_verdict n.verdict) n.fault n.on n.ended n.count

abbrev pub tail_text_of : Shown → List ℕ
tail_text_of n = tail_text (to_verdict n.verdict) n.doubtful

abbrev pub line_text_of : Shown → List ℕ
line_text_of n = line_text (to_verdict n.verdict) n.fault n.on n.ended n.count n.bytes n.doubtful
