-- Demand 3, whole: one claim about every list of receive calls, with what the definitions that it shares mean.
use Rattle.transfer.specs.Start.{Start}
use Rattle.transfer.specs.Judgement.{Judgement}
use Rattle.transfer.specs.Cutting.{Cutting}
use Rattle.transfer.specs.Fitting.{Fitting}
use Rattle.transfer.specs.Rows.{Rows}
use Rattle.transfer.specs.ByteRows.{ByteRows}
use Rattle.transfer.specs.EachCall.{EachCall}
use Rattle.transfer.specs.AfterList.{EveryList}
use Rattle.transfer.specs.Arrivals.{EveryArrival}
use Rattle.transfer.specs.Example.{Example}

pub record Demand3 : Type 1 where
  -- what start leaves, how a header is judged, how bytes are cut into blocks, and what FIT says
  pub start : Start
  pub judgement : Judgement
  pub cutting : Cutting
  pub fitting : Fitting
  -- what one call and one byte answer and leave, and what a call adds to the tally
  pub rows : Rows
  pub byte_rows : ByteRows
  pub each_call : EachCall
  -- after every list of calls
  pub every_list : EveryList
  -- for every arrival of every well-formed sending
  pub every_arrival : EveryArrival
  -- an instance
  pub example : Example
