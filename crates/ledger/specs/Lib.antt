pub mod Pairs
pub mod Ledger
pub mod Ledgers
pub mod Place
pub mod LookUp
