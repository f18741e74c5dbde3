pub mod Blocks
pub mod Sender
pub mod Calls
pub mod BlockRows
pub mod SenderRows
pub mod Sends
pub mod Example
pub mod SendingSide
