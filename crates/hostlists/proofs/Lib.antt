pub mod HostList
pub mod HostListsRead
pub mod HostListsOnce
pub mod HostLists
pub mod HostCounts
