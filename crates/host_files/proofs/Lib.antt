pub mod Whole
mod Examples
