pub mod WritesAt
pub mod WrittenBy
pub mod Numbers
pub mod Answers
