pub mod Digits
pub mod Decimals
pub mod Reading
mod LoopStep
pub mod RoundTrip
pub mod Rest
