mod Places
mod Steps
mod RowParts
mod Reading
mod Examples
mod TextLines
pub mod Largest
mod Holdings
mod Records
mod Escaped
mod Quoted
mod MapExamples
mod Sheets
