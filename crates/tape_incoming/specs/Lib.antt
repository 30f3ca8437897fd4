pub mod Incoming
pub mod Messages
