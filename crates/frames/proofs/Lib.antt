pub mod Framed
pub mod FirstRecord
