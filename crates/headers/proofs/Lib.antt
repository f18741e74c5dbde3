pub mod ClaimNumber
pub mod ClaimRange
pub mod ClaimOrFault
pub mod ApplyHeader
