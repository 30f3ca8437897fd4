pub mod ReadBack
pub mod NumberLemmas
pub mod EntryLemmas
pub mod LineLemmas
mod Examples
