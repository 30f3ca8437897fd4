pub mod SentLemmas
pub mod StepLemmas
pub mod RoundLaws
pub mod CourseLaws
pub mod GuestLaws
pub mod RunLaws
mod Examples
