pub mod Lent
mod Examples
mod SystemMade
