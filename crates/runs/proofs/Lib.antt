pub mod StateNumbers
pub mod FittingChannel
pub mod HeaderRuns
pub mod PayloadRuns
pub mod Runs
pub mod CallRuns
