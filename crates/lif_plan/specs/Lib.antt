pub mod Choices
pub mod Entries
pub mod Directories
pub mod Refusals
pub mod Plans
pub mod Parts
pub mod Batches
