pub mod Screen
pub mod ScreenRows
pub mod ScreenTally
pub mod ScreenCases
