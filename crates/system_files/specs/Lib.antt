pub mod HiddenFiles
pub mod Folders
