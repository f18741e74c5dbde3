pub mod Conversion
pub mod ConversionCases
pub mod KindTwo
pub mod KindTwoCases
