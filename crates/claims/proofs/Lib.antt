mod Shifts
mod ShiftedPairs
mod JoinRoom
mod Neighbours
mod JoinInPlace
mod Judged
mod JudgedByPlace
pub mod ClaimLaws
