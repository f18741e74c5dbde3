mod HostCount
mod Rows
mod RestRanges
mod LineRows
mod Conditions
mod Table
mod EveryEvent
mod ExampleLines
mod Reached
mod RowsMet
pub mod Sessions
