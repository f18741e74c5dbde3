pub mod Console
pub mod Rows
pub mod Table
pub mod Sessions
