pub mod Steps
pub mod Made
pub mod Found
pub mod Laws
mod Examples
