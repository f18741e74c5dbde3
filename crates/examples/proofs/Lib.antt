pub mod ProvedSet
pub mod CallCases
pub mod ConsoleSession
