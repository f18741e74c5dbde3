-- Demand 3, put together.
use Rattle.transfer.specs.Arrivals.{EveryArrival}
use Rattle.transfer.specs.Example.{example_sending, calls, Example}
use Rattle.transfer.specs.Calls.{started_world}
use Rattle.transfer.specs.Demand.{Demand3}
use Rattle.ledger.specs.Pairs.{none}
use lib.ListN.{replicate}
use Rattle.transfer.proofs.Start.{start}
use Rattle.transfer.proofs.Judgement.{judgement}
use Rattle.transfer.proofs.Cutting.{cutting}
use Rattle.transfer.proofs.Fitting.{fitting}
use Rattle.transfer.proofs.Rows.{rows}
use Rattle.transfer.proofs.ByteRows.{byte_rows}
use Rattle.transfer.proofs.EachCall.{each_call}
use Rattle.transfer.proofs.AfterList.{every_list}
use Rattle.transfer.proofs.SendingPieces.{has_arrival}
use Rattle.transfer.proofs.ArrivalWhole.{arrives}
use Rattle.transfer.proofs.ArrivalOnlyWellFormed.{only_well_formed}
use Rattle.transfer.proofs.Example.{well_formed, suspected_well_formed, none_suspected, one_suspected, arrival, begins}

pub every_arrival : EveryArrival
every_arrival = record { arrives = arrives; has_arrival = has_arrival; only_well_formed = only_well_formed }

pub example : Example
example =
    record {
      well_formed = well_formed;
      arrival = arrival;
      begins = begins;
      arrives = arrives (started_world (replicate 8 0) (replicate 4 7) (replicate 4 7)) (replicate 8 0) 2 none begins example_sending well_formed calls arrival;
      none_suspected = none_suspected;
      suspected_well_formed = suspected_well_formed;
      one_suspected = one_suspected;
    }

pub demand-3 : Demand3
demand-3 =
    record {
      start = start;
      judgement = judgement;
      cutting = cutting;
      fitting = fitting;
      rows = rows;
      byte_rows = byte_rows;
      each_call = each_call;
      every_list = every_list;
      every_arrival = every_arrival;
      example = example;
    }
