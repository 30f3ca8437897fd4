pub mod TalkerLemmas
pub mod PassLemmas
pub mod QuietLemmas
pub mod FitLemmas
pub mod ReadLemmas
pub mod PrefixLemmas
pub mod KnownLemmas
pub mod ExpectedLemmas
pub mod UnitLemmas
pub mod WalkLemmas
pub mod PieceLemmas
pub mod SendLemmas
pub mod ReceiveLemmas
pub mod CourseLemmas
pub mod EffectLemmas
mod Examples
mod ExpectedExamples
mod EffectExamples
