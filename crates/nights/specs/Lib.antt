pub mod Request
pub mod Lines
pub mod Reading
pub mod Night
pub mod Replay
pub mod ReplayCases
