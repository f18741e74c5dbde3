pub mod Digits
pub mod Decimal
pub mod Reading
pub mod RoundTrip
pub mod Cases
