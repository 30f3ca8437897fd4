pub mod Roles
pub mod State
pub mod Passing
pub mod Takes
pub mod Interfaces
pub mod Plain
