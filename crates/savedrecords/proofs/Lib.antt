pub mod KindNumbers
pub mod RecordPairs
pub mod RecordFrame
pub mod RecordRefusal
pub mod RecordCases
pub mod RecordBytes
pub mod RecordRoundTrip
