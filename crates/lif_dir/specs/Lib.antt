pub mod Entries
pub mod Names
pub mod Indexes
pub mod Tables
pub mod Batches
pub mod Changes
pub mod Reading
