pub mod ExchangeLaws
pub mod RoleLaws
pub mod RoleSteps
pub mod TalkLaws
pub mod UnitLaws
pub mod RecordLaws
pub mod RoundLaws
pub mod SendLaws
pub mod ReachLaws
pub mod EffectLaws
pub mod HearLaws
pub mod ReadingLaws
pub mod DeviceLaws
pub mod LeadingLaws
pub mod Commanded
pub mod TakingBack
pub mod WholeReadings
mod Examples
mod TransferExamples
mod LeadingExamples
