pub mod PollLemmas
mod Examples
