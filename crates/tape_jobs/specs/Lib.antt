pub mod Dir
pub mod Reading
pub mod Out
pub mod Collecting
pub mod Differences
pub mod CopyMessages
