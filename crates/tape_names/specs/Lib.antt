pub mod Types
pub mod Sizes
pub mod Dates
pub mod HostNames
