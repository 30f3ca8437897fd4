mod Rooms
mod Listed
mod Settling
pub mod Copies
mod Fetching
mod Gathered
mod Examples
