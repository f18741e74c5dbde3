-- Document 02, Item 1, whole: a field for each sentence.
use Rattle.std.specs.Prelude.{ℕ, ◌^◌, ◌<◌, ◌≡◌, List, length}
use Rattle.sender.specs.Sender.{begin_refusal}
use Rattle.sender.specs.BlockRows.{BlocksAre, EndingsAre}
use Rattle.sender.specs.SenderRows.{RefusedBeginning, Rows}
use Rattle.sender.specs.Example.{Example}
use Rattle.sender.specs.Sends.{GivenByCalls, Sends, CanEnd, WellFormedSending, ExactlyOnce, EqualFile}

pub record SendingSide : Type 1 where
  pub blocks_are : (file : List ℕ) (count size : ℕ) → begin_refusal count size ≡ 0 → BlocksAre file count size
  pub endings_are : (file : List ℕ) (count size : ℕ) → EndingsAre file count size
  pub rows : Rows
  pub refused_beginning : RefusedBeginning
  pub given_by_calls : GivenByCalls
  pub sends : Sends
  pub can_end : CanEnd
  pub well_formed : WellFormedSending
  -- a header has eight bytes for a place, so the file is shorter than 2^64
  pub exactly_once : (file : List ℕ) (count size : ℕ) → begin_refusal count size ≡ 0 → length file < 2 ^ 64 → ExactlyOnce file count size
  pub equal_file : EqualFile
  -- an instance
  pub example : Example
