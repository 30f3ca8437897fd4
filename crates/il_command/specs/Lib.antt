pub mod Messages
pub mod Performing
