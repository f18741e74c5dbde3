-- The screen line's example (document 01) as a sending, and one with bit 32: the hypotheses of the last sentence of demand 3 can be met.
use Rattle.std.specs.Prelude.{ℕ, ◌<◌, ◌≡◌, List, [], ◌∷◌, ◌++◌, replicate}
use Rattle.ledger.specs.Pairs.{none}
use Rattle.eblock.specs.Header.{header_bytes}
use Rattle.transfer.specs.Calls.{Call, receive, started_world}
use Rattle.transfer.specs.Block.{block, doubtful_in}
use Rattle.transfer.specs.AfterList.{StartedWith}
use Rattle.transfer.specs.Sending.{SentChannel, sent_blocks, non_empty_payloads, WellFormed, Arrival}
use Rattle.transfer.specs.Arrivals.{Arrives}

-- "plai" and "d123"
abbrev pub plai : List ℕ
plai = 112 ∷ 108 ∷ 97 ∷ 105 ∷ []

abbrev pub d123 : List ℕ
d123 = 100 ∷ 49 ∷ 50 ∷ 51 ∷ []

abbrev pub first_call : Call
first_call = receive 0 (header_bytes 0 4 0 ++ plai)

abbrev pub second_call : Call
second_call = receive 1 (header_bytes 8 4 4 ++ d123)

abbrev pub third_call : Call
third_call = receive 0 (header_bytes 72 0 2)

-- two channels: "plai" with that descriptor and the count on channel 0, "d123" on channel 1
abbrev pub sending_with : ℕ → List SentChannel
sending_with d =
    record { number = 0; blocks = block (header_bytes d 4 0) plai ∷ block (header_bytes 72 0 2) [] ∷ [] }
    ∷ record { number = 1; blocks = block (header_bytes 8 4 4) d123 ∷ [] }
    ∷ []

abbrev pub example_sending : List SentChannel
example_sending = sending_with 0

-- the same with bit 32
abbrev pub suspected_sending : List SentChannel
suspected_sending = sending_with 32

abbrev pub calls : List Call
calls = first_call ∷ second_call ∷ third_call ∷ []

pub record Example : Type 0 where
  pub well_formed : WellFormed 8 2 none example_sending
  pub arrival : Arrival example_sending calls
  pub begins : StartedWith (started_world (replicate 8 0) (replicate 4 7) (replicate 4 7)) (replicate 8 0) 2 none
  pub arrives : Arrives (started_world (replicate 8 0) (replicate 4 7) (replicate 4 7)) (replicate 8 0) example_sending calls
  -- of the first no payload is suspected, of the second one that is not empty
  pub none_suspected : non_empty_payloads (doubtful_in (sent_blocks example_sending)) ≡ 0
  pub suspected_well_formed : WellFormed 8 2 none suspected_sending
  pub one_suspected : 0 < non_empty_payloads (doubtful_in (sent_blocks suspected_sending))
