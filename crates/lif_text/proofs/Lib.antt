pub mod Cuts
pub mod Reading
pub mod Spellings
mod Examples
