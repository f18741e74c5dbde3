pub mod LineAnswers
pub mod VerbNames
pub mod Letters
mod Spaces
mod Printable
mod VerbTable
mod LineParts
pub mod WrittenLines
pub mod Lines
mod BeginsWithVerb
pub mod Refused
pub mod Accepted
