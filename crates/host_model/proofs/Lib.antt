pub mod Steps
pub mod Fronts
pub mod Traces
pub mod RingStates
pub mod Runs
pub mod Growing
pub mod Complete
pub mod Generated
mod Small
mod TextExamples
mod StepExamples
mod FieldExamples
mod LoopExamples
mod RunExamples
mod EndExamples
mod FetchExample
mod ClearExamples
mod GetExamples
mod BatchExamples
mod DirectoryExamples
pub mod NoCommands
pub mod Tapes
mod PackExamples
mod LendExamples
mod TapeExamples
pub mod Addressed
