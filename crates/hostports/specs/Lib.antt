pub mod HostPort
pub mod HostPorts
pub mod HostPortCases
