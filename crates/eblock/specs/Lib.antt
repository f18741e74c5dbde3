pub mod Descriptor
pub mod Header
pub mod Table
pub mod Weights
pub mod HeaderRows
pub mod RoundTrip
