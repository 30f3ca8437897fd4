pub mod Listing
pub mod Columns
pub mod Rows
pub mod Texts
pub mod Free
pub mod Map
pub mod Picture
pub mod Pages
