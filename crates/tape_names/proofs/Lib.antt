pub mod Rows
pub mod Ranges
pub mod HostSizes
pub mod HostNames
pub mod HostBytes
mod Examples
