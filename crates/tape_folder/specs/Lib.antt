pub mod Folders
pub mod Keeping
pub mod HiddenFolders
pub mod SystemFolders
pub mod MemoryFolders
pub mod Paths
