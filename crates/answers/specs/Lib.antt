pub mod Refusal
pub mod Loaded
pub mod Written
pub mod WritesAt
pub mod Answers
