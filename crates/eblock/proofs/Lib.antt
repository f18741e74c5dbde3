pub mod HeaderAnswers
pub mod HeaderFields
mod HeaderStores
pub mod HeaderRows
pub mod RoundTrip
pub mod Table
pub mod Weights
