pub mod Kind
pub mod Record
pub mod RecordCases
pub mod RecordBytes
pub mod RecordRoundTrip
