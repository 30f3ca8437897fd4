pub mod Packers
pub mod Marks
pub mod Moving
pub mod Tasks
pub mod Steps
pub mod Packs
