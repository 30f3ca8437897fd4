pub mod Simple
pub mod Halves
pub mod Generating
pub mod Faults
pub mod Planning
pub mod Asked
