mod Walk
mod LegalExtents
pub mod Found
pub mod Planning
mod Formats
mod Taking
mod PartPlans
pub mod BatchPlans
mod Remembered
mod Chosen
mod Examples
mod BatchExamples
mod ChoiceExamples
