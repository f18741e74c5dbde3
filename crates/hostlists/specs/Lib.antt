pub mod HostList
pub mod HostLists
pub mod HostCounts
