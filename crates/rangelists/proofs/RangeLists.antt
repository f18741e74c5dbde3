-- `RangeLists` holds.
use Rattle.rangelists.specs.RangeLists.{RangeLists}
use Rattle.rangelists.proofs.RangeUnion.{reads-union}
use Rattle.rangelists.proofs.RangeRoundTrip.{reads-back, reads_same}

pub range-lists : RangeLists
range-lists = record { reads_the_union = reads-union; reads_what_was_written = reads-back; reads_the_same = reads_same }
