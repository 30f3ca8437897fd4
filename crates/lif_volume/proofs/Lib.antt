mod Mounting
pub mod Gated
mod Fetching
pub mod Making
mod Filing
mod Planned
mod Carrying
pub mod Batched
mod CarryingAll
mod Joining
mod Renewing
mod Examples
mod ExamplesChanging
mod ExamplesBatch
