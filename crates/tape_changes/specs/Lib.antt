pub mod Changing
pub mod Replacing
pub mod ReplaceMessages
pub mod ChangeMessages
pub mod Steps
pub mod Storing
