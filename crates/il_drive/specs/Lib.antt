pub mod Commands
pub mod Faults
pub mod State
pub mod Steps
pub mod Table
pub mod Facts
pub mod Runs
pub mod Resting
