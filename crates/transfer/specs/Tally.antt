-- The tally (document 01's word; document 02, Item 3): fed only F, R, the ranges held from the beginning, and each call's channel number and piece, it keeps each channel's
-- taken bytes and any fault. `before` are those ranges: none, until a transfer can be resumed.
use Rattle.std.specs.Prelude.{ℕ, zero, suc, Bool, true, false, cond, ◌&&◌, not, List, [], ◌∷◌, ◌++◌, leb, ltb, eqb, length, get_or, set, replicate}
use Rattle.ledger.specs.Pairs.{Pairs, none, size}
use Rattle.transfer.specs.Channel.{channel_count, held_limit}
use Rattle.transfer.specs.Transfer.{sum, Verdict, guess, result, suspect, broken}
use Rattle.transfer.specs.Header.{HeaderRequest, counts, claims, nothing, faulty, request_of, claim_fault}
use Rattle.transfer.specs.Receive.{Outcome, continues, stops, not_taken, Answer, refused, take_bytes, is_guess, is_non_empty}
use Rattle.transfer.specs.Calls.{Call, receive}
use Rattle.transfer.specs.Block.{Block, cut, partial_header, counts_in, claims_in, doubtful_in, has_ended}

-- ---- one channel: its taken bytes; faulted where the last header of them was judged a fault

pub data Stream : Type 0 where
  intact : List ℕ → Stream
  faulted : List ℕ → Stream

abbrev pub taken : Stream → List ℕ
taken (intact bs) = bs
taken (faulted bs) = bs

unfoldable pub all_but_last : List Block → List Block
all_but_last [] = []
all_but_last (x ∷ []) = []
all_but_last (x ∷ y ∷ xs) = x ∷ all_but_last (y ∷ xs)

-- a block is accepted once its header is taken without a fault
unfoldable pub accepted : Stream → List Block
accepted (intact bs) = cut bs
accepted (faulted bs) = all_but_last (cut bs)

-- ---- all channels

pub record Tally : Type 0 where
  pub streams : List Stream
  pub fault : ℕ
  pub on : ℕ

-- the channels that every number of the tally goes over
abbrev pub counted_streams : Tally → List Stream
counted_streams t = t.streams

unfoldable pub blocks_of : List Stream → List Block
blocks_of [] = []
blocks_of (s ∷ ss) = accepted s ++ blocks_of ss

abbrev pub counts_of : List Stream → List ℕ
counts_of ss = counts_in (blocks_of ss)

-- the count, 0 where none is known
abbrev pub known_count : List Stream → ℕ
known_count ss = get_or (counts_of ss) 0 0

-- the ranges held from the beginning, none until a transfer can be resumed, and those that these claim
abbrev pub claimed : Pairs → List Stream → Pairs
claimed before ss = claims_in (blocks_of ss) before

-- the ranges of these that have bit 32
abbrev pub doubted : List Stream → Pairs
doubted ss = claims_in (doubtful_in (blocks_of ss)) none

abbrev pub one_if : Bool → ℕ
one_if true = 1
one_if false = 0

abbrev pub used_in : List Stream → ℕ
used_in ss = sum (λ (s : Stream). one_if (is_non_empty (taken s))) ss

abbrev pub ended_in : List Stream → ℕ
ended_in ss = sum (λ (s : Stream). one_if (has_ended (accepted s))) ss

-- BROKEN where there is a fault; else, where the accepted blocks hold one count and as many channels have ended, SUSPECT if a range is doubtful and
-- RESULT if none is; else GUESS
unfoldable pub tally_verdict : Tally → Verdict
tally_verdict t =
    cond (ltb 0 t.fault) broken
    (cond (eqb (length (counts_of (counted_streams t))) 1 && eqb (ended_in (counted_streams t)) (known_count (counted_streams t)))
    (cond (ltb 0 (size (doubted (counted_streams t)))) suspect result) guess)

unfoldable pub empty : Tally
empty = record { streams = replicate channel_count (intact []); fault = 0; on = 0 }

abbrev pub stream_at : Tally → ℕ → Stream
stream_at t c = get_or t.streams c (intact [])

abbrev pub with_stream : Tally → ℕ → Stream → Tally
with_stream t c s = record { streams = set t.streams c s; fault = t.fault; on = t.on }

abbrev pub tally_with_fault : Tally → ℕ → ℕ → Tally
tally_with_fault t k c = record { streams = t.streams; fault = k; on = c }

-- ---- a byte

-- channel c has taken the bytes bs without a fault; a channel's end stops the call
unfoldable pub keep_bytes : Tally → ℕ → List ℕ → Outcome Tally
keep_bytes t c bs =
    let next = with_stream t c (intact bs) in
    cond (has_ended (cut bs)) (stops next) (continues next)

-- the last of the bytes bs made a header whole, which is judged k
unfoldable pub apply_judgement : Tally → ℕ → List ℕ → ℕ → Outcome Tally
apply_judgement t c bs zero = keep_bytes t c bs
apply_judgement t c bs (suc k) = stops (tally_with_fault (with_stream t c (faulted bs)) (suc k) c)

-- the fault of what a header asks for, 0 where it has none
unfoldable pub request_fault : ℕ → Pairs → Pairs → HeaderRequest → ℕ
request_fault R ps ds (faulty k) = k
request_fault R ps ds (counts n) = 0
request_fault R ps ds nothing = 0
request_fault R ps ds (claims s e doubt) = claim_fault R ps ds s e doubt

-- one byte on channel c, whose bytes so far are bs
unfoldable pub tally_byte_after : ℕ → ℕ → Pairs → Tally → ℕ → List ℕ → ℕ → Outcome Tally
tally_byte_after F R before t c bs b =
    cond (not (is_non_empty bs) && (ltb 0 (known_count (counted_streams t)) && eqb (used_in (counted_streams t)) (known_count (counted_streams t)))) (not_taken (tally_with_fault t 19 c))
    (cond (eqb (length (partial_header bs)) held_limit)
    (apply_judgement t c (bs ++ (b ∷ [])) (request_fault R (claimed before (counted_streams t)) (doubted (counted_streams t)) (request_of F (known_count (counted_streams t)) (used_in (counted_streams t)) (partial_header bs ++ (b ∷ [])))))
    (keep_bytes t c (bs ++ (b ∷ []))))

unfoldable pub tally_byte : ℕ → ℕ → Pairs → Tally → ℕ → ℕ → Outcome Tally
tally_byte F R before t c b = tally_byte_after F R before t c (taken (stream_at t c)) b

-- ---- a call: 2, 3 and 4 change nothing and are answered so; others go byte by byte

unfoldable pub tally_refusal : Tally → ℕ → List ℕ → ℕ
tally_refusal t c piece =
    cond (leb channel_count c) 2
    (cond (not (is_guess (tally_verdict t))) 3
    (cond (is_non_empty piece && has_ended (accepted (stream_at t c))) 4 0))

unfoldable pub tally_call : ℕ → ℕ → Pairs → Tally → Call → Answer × Tally
tally_call F R before t (receive c piece) =
    let go = take_bytes (λ v b. tally_byte F R before v c b) t piece 0 in
    cond (ltb 0 (tally_refusal t c piece)) (refused (tally_refusal t c piece), t) go
