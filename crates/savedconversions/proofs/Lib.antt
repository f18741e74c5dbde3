mod Parts
mod Pairs
pub mod ConversionNumber
pub mod ConversionCases
pub mod ConversionRoundTrip
pub mod KindTwo
pub mod KindTwoCases
