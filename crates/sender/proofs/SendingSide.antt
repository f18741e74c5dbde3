-- Document 02, Item 1, whole.
use Rattle.sender.specs.SendingSide.{SendingSide}
use Rattle.sender.proofs.BeginRange.{in-range}
use Rattle.sender.proofs.BlockRows.{blocks_are, endings_are}
use Rattle.sender.proofs.SenderRows.{rows, refused_beginning}
use Rattle.sender.proofs.SentCalls.{sends}
use Rattle.sender.proofs.GivenByCalls.{given_by_calls, can_end}
use Rattle.sender.proofs.SentPlaces.{exactly_once}
use Rattle.sender.proofs.WellFormedSending.{well_formed, none_suspected}
use Rattle.sender.proofs.EqualFile.{equal_file}
use Rattle.sender.proofs.Example.{example}

pub sending-side : SendingSide
sending-side =
    record {
      blocks_are = blocks_are;
      endings_are = endings_are;
      rows = rows;
      refused_beginning = refused_beginning;
      given_by_calls = given_by_calls;
      sends = sends;
      can_end = can_end;
      well_formed = record { is = λ file count size e. let r = in-range count size e in well_formed file count size r.0.0 r.0.1 r.1.0 r.1.1; none_suspected = none_suspected };
      exactly_once = λ file count size e. let r = in-range count size e in exactly_once file count size r.0.0 r.1.0;
      equal_file = equal_file;
      example = example;
    }
