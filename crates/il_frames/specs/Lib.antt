pub mod Frames
pub mod Messages
pub mod Texts
pub mod Names
pub mod Entries
pub mod NamedFrames
