pub mod Buffer
pub mod Cutting
pub mod Format
pub mod Pieces
