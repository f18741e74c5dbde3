pub mod Claim
pub mod Neighbours
pub mod ClaimLaws
pub mod Shift
