pub mod Asked
pub mod Kept
pub mod Steps
pub mod Chunks
