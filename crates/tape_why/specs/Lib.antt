pub mod Defects
pub mod Readings
pub mod Searches
pub mod Why
