pub mod Staging
mod Examples
pub mod Ends
pub mod Turns
