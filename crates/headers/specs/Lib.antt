pub mod Request
pub mod ClaimNumber
pub mod ClaimRange
pub mod ClaimOrFault
