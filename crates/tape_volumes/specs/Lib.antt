pub mod Changes
pub mod Volumes
pub mod Endings
pub mod Messages
pub mod Outputs
