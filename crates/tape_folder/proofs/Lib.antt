pub mod Steps
pub mod Shelves
pub mod PartInMemory
