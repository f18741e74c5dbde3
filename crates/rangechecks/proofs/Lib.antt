pub mod Ranges
pub mod RangeInside
pub mod Reaching
pub mod NestedWalk
