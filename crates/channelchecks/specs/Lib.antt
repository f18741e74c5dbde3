pub mod ChannelTotals
pub mod Payloads
pub mod FitReport
