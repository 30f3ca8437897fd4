pub mod Answered
mod Examples
pub mod Legality
pub mod Pages
pub mod Pieces
pub mod Places
pub mod Volumes
