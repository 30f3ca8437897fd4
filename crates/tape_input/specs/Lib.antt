pub mod Input
pub mod Messages
