pub mod Bytes
mod Spaces
mod Slots
mod Indexing
mod Searching
mod TableLemmas
mod Examples
mod Shapes
mod Edited
pub mod Changing
