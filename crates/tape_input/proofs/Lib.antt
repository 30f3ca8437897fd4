pub mod Taken
mod Lines
mod Examples
