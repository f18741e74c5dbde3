pub mod RangeText
mod UsedPairs
mod PartsByComma
pub mod Parts
mod RangeParsing
pub mod OneRange
pub mod RangeMerging
mod RangeUnion
pub mod RangeReading
pub mod MalformedRanges
pub mod RangeWriting
mod RangeRoundTrip
pub mod RangeLists
pub mod RangeCases
