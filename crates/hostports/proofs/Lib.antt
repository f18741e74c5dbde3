pub mod HostPort
pub mod HostPortsWritten
pub mod HostPortsRead
pub mod HostPortsOnce
pub mod HostPortsRefused
pub mod HostPorts
pub mod HostPortCases
