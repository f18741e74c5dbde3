pub mod Line
pub mod LineAnswers
pub mod VerbNames
pub mod Letters
pub mod Accepted
pub mod Refused
pub mod WrittenLines
