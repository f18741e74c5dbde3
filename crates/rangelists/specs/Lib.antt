pub mod RangeText
pub mod OneRange
pub mod Parts
pub mod RangeLists
pub mod RangeReading
pub mod MalformedRanges
pub mod RangeWriting
pub mod RangeCases
