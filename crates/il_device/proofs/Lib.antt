pub mod StandingLemmas
pub mod TurnLemmas
pub mod Laws
mod Examples
