pub mod Frames
pub mod Rounds
pub mod Steps
pub mod State
pub mod Takes
pub mod Courses
