pub mod ChannelTotals
pub mod Payloads
pub mod FitReportFields
pub mod Used
