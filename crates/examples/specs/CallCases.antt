-- Worked cases of lists of calls that are not in the proved set: document 01's other examples, each refusal and fault that a call is known to
-- reach, and the limits, as one statement over a list of cases.
use Rattle.std.specs.Prelude.{ℕ, ◌*◌, ◌≡◌, List, [], ◌∷◌, ◌++◌, replicate}
use Rattle.octets.specs.Cases.{AllHold}
use Rattle.eblock.specs.Header.{header_bytes}
use Rattle.transfer.specs.Transfer.{Verdict, guess, result, suspect, broken, verdict_of, stored_of, doubt_of}
use Rattle.transfer.specs.Receive.{Answer, refused, took}
use Rattle.transfer.specs.Calls.{Call, receive, started_world, answers_of, after}
use Rattle.transfer.specs.Example.{first_call, second_call, third_call}

-- from a file of so many zero bytes and ledgers of so many pairs, the calls are answered so and leave this
pub record Case : Type 0 where
  pub bytes : ℕ
  pub pairs : ℕ
  pub calls : List Call
  pub answers : List Answer
  pub shows : Verdict
  pub fault : ℕ
  pub on : ℕ
  pub stored : ℕ
  pub claimed : List ℕ
  pub doubt : ℕ
  pub doubtful : List ℕ

abbrev pub Holds : Case → Type 0
Holds k =
    let w = started_world (replicate k.bytes 0) (replicate (2 * k.pairs) 7) (replicate (2 * k.pairs) 7) in
    let v = after w k.calls in
    (answers_of w k.calls ≡ k.answers)
    × (verdict_of v ≡ k.shows)
    × (v.t.fault ≡ k.fault)
    × (v.t.on ≡ k.on)
    × (stored_of v ≡ k.stored)
    × (v.lent.claimed ≡ k.claimed)
    × (doubt_of v ≡ k.doubt)
    × (v.lent.doubtful ≡ k.doubtful)

-- a case without doubt that ends in a fault, or goes on; and one with these doubtful bytes and this doubtful ledger
abbrev with_fault : ℕ → ℕ → List Call → List Answer → ℕ → ℕ → ℕ → List ℕ → Case
with_fault f r ks said k c n l =
    record { bytes = f; pairs = r; calls = ks; answers = said; shows = broken; fault = k; on = c; stored = n; claimed = l; doubt = 0; doubtful = replicate (2 * r) 0 }

abbrev without_fault : ℕ → ℕ → List Call → List Answer → Verdict → ℕ → List ℕ → Case
without_fault f r ks said v n l = record { bytes = f; pairs = r; calls = ks; answers = said; shows = v; fault = 0; on = 0; stored = n; claimed = l; doubt = 0; doubtful = replicate (2 * r) 0 }

abbrev with_doubt : Case → ℕ → List ℕ → Case
with_doubt k n l =
    record {
      bytes = k.bytes;
      pairs = k.pairs;
      calls = k.calls;
      answers = k.answers;
      shows = k.shows;
      fault = k.fault;
      on = k.on;
      stored = k.stored;
      claimed = k.claimed;
      doubt = n;
      doubtful = l;
    }

-- the header of a payload of so many bytes at that place, with bit 32
abbrev pub doubted : ℕ → ℕ → List ℕ
doubted offset len = header_bytes 32 len offset

abbrev pub cases : List Case
cases =
    -- the screen line's example, call by call
    without_fault 8 1 (first_call ∷ []) (took 21 ∷ []) guess 4 (0 ∷ 4 ∷ [])
    ∷ without_fault 8 1 (first_call ∷ second_call ∷ []) (took 21 ∷ took 21 ∷ []) guess 8 (0 ∷ 8 ∷ [])
    ∷ without_fault 8 1 (first_call ∷ second_call ∷ third_call ∷ []) (took 21 ∷ took 21 ∷ took 17 ∷ []) result 8 (0 ∷ 8 ∷ [])
    -- after RESULT every call is refused by 3, and one on a channel above 63 by 2
    ∷ without_fault 8 1 (first_call ∷ second_call ∷ third_call ∷ receive 5 [] ∷ receive 64 [] ∷ []) (took 21 ∷ took 21 ∷ took 17 ∷ refused 3 ∷ refused 2 ∷ []) result 8 (0 ∷ 8 ∷ [])
    -- an empty range far past F
    ∷ without_fault 8 0 (receive 0 (header_bytes 0 0 100) ∷ []) (took 17 ∷ []) guess 0 []
    -- offset and length of which the sum does not fit 64 bits
    ∷ with_fault 8 1 (receive 0 (header_bytes 0 18446744073709551615 18446744073709551615) ∷ []) (took 17 ∷ []) 16 0 0 (0 ∷ 0 ∷ [])
    -- bytes 0 to 3 claimed: 6 to 7 lacks a pair
    ∷ with_fault 8 1 (receive 0 (header_bytes 0 4 0) ∷ receive 1 (header_bytes 0 2 6) ∷ []) (took 17 ∷ took 17 ∷ []) 18 1 0 (0 ∷ 4 ∷ [])
    -- past F and sharing bytes: 16; sharing bytes where pairs are lacking: 17
    ∷ with_fault 8 1 (receive 0 (header_bytes 0 4 0) ∷ receive 1 (header_bytes 0 6 3) ∷ []) (took 17 ∷ took 17 ∷ []) 16 1 0 (0 ∷ 4 ∷ [])
    ∷ with_fault 8 2 (receive 0 (header_bytes 0 2 0) ∷ receive 1 (header_bytes 0 2 6) ∷ receive 2 (header_bytes 0 3 4) ∷ []) (took 17 ∷ took 17 ∷ took 17 ∷ []) 17 2 0 (0 ∷ 2 ∷ 6 ∷ 8 ∷ [])
    -- counts: 0, 65, 64, fewer than are used, a second one
    ∷ with_fault 8 1 (receive 3 (header_bytes 64 0 0) ∷ []) (took 17 ∷ []) 15 3 0 (0 ∷ 0 ∷ [])
    ∷ with_fault 8 1 (receive 3 (header_bytes 64 0 65) ∷ []) (took 17 ∷ []) 15 3 0 (0 ∷ 0 ∷ [])
    ∷ without_fault 8 1 (receive 3 (header_bytes 64 0 64) ∷ []) (took 17 ∷ []) guess 0 (0 ∷ 0 ∷ [])
    ∷ with_fault 8 1 (receive 0 (0 ∷ []) ∷ receive 1 (header_bytes 64 0 1) ∷ []) (took 1 ∷ took 17 ∷ []) 15 1 0 (0 ∷ 0 ∷ [])
    ∷ with_fault 8 1 (receive 0 (header_bytes 64 0 2 ++ header_bytes 64 0 2) ∷ []) (took 34 ∷ []) 14 0 0 (0 ∷ 0 ∷ [])
    -- n = 2, two used: a byte on a third is not taken
    ∷ with_fault 8 1 (receive 0 (header_bytes 64 0 2) ∷ receive 1 (0 ∷ []) ∷ receive 2 (0 ∷ []) ∷ []) (took 17 ∷ took 1 ∷ took 0 ∷ []) 19 2 0 (0 ∷ 0 ∷ [])
    -- where a channel ends, the rest of the piece is left; offered again it is 4, and an empty piece is accepted
    ∷ without_fault 8 1 (receive 0 (header_bytes 8 0 0 ++ (1 ∷ [])) ∷ receive 0 (1 ∷ []) ∷ receive 0 [] ∷ []) (took 17 ∷ refused 4 ∷ took 0 ∷ []) guess 0 (0 ∷ 0 ∷ [])
    -- channel 63 is the last; 64 is none
    ∷ without_fault 8 1 (receive 63 (header_bytes 72 0 1) ∷ []) (took 17 ∷ []) result 0 (0 ∷ 0 ∷ [])
    ∷ without_fault 8 1 (receive 64 (0 ∷ []) ∷ []) (refused 2 ∷ []) guess 0 (0 ∷ 0 ∷ [])
    -- a ledger of 4,096 pairs, 8,192 entries
    ∷ without_fault 8 4096 (receive 0 (header_bytes 0 4 4) ∷ []) (took 17 ∷ []) guess 0 (4 ∷ 8 ∷ replicate 8190 0)
    -- bit 32: claimed in both ledgers, with or without bit 8 and bit 4; two that touch become one
    ∷ with_doubt (without_fault 8 1 (receive 0 (doubted 4 4) ∷ []) (took 17 ∷ []) guess 0 (4 ∷ 8 ∷ [])) 4 (4 ∷ 8 ∷ [])
    ∷ with_doubt (without_fault 8 1 (receive 0 (header_bytes 40 2 2) ∷ receive 1 (header_bytes 44 2 0) ∷ []) (took 17 ∷ took 17 ∷ []) guess 0 (0 ∷ 4 ∷ [])) 4 (0 ∷ 4 ∷ [])
    -- an empty payload leaves no doubt
    ∷ without_fault 8 1 (receive 0 (doubted 4 0) ∷ receive 0 (header_bytes 72 0 1) ∷ []) (took 17 ∷ took 17 ∷ []) result 0 (0 ∷ 0 ∷ [])
    -- SUSPECT, after which every call is refused by 3
    ∷ with_doubt (without_fault 8 1 (receive 0 (doubted 0 1 ++ (9 ∷ []) ++ header_bytes 0 1 1 ++ (9 ∷ [])) ∷ receive 0 (header_bytes 72 0 1) ∷ receive 0 [] ∷ []) (took 36 ∷ took 17 ∷ refused 3 ∷ []) suspect 2 (0 ∷ 2 ∷ [])) 1 (0 ∷ 1 ∷ [])
    -- 18 by the doubtful ledger alone, and nothing is claimed; 17 where both are due
    ∷ with_doubt (with_fault 8 1 (receive 0 (doubted 0 1 ++ (9 ∷ [])) ∷ receive 0 (header_bytes 0 1 1 ++ (9 ∷ [])) ∷ receive 0 (doubted 2 1) ∷ []) (took 18 ∷ took 18 ∷ took 17 ∷ []) 18 0 2 (0 ∷ 2 ∷ [])) 1 (0 ∷ 1 ∷ [])
    ∷ with_doubt (with_fault 16 1 (receive 0 (doubted 0 1) ∷ receive 1 (header_bytes 0 9 1) ∷ receive 2 (doubted 5 1) ∷ []) (took 17 ∷ took 17 ∷ took 17 ∷ []) 17 2 0 (0 ∷ 10 ∷ [])) 1 (0 ∷ 1 ∷ [])
    -- an EODC with bit 32 is 13
    ∷ with_fault 8 1 (receive 0 (header_bytes 104 0 1) ∷ []) (took 17 ∷ []) 13 0 0 (0 ∷ 0 ∷ [])
    ∷ []

abbrev pub CallCases : Type 0
CallCases = AllHold Holds cases
