mod VerdictExamples
pub mod VerdictLaws
pub mod TextLemmas
pub mod LineLemmas
pub mod StepLemmas
pub mod EndLemmas
pub mod Known
pub mod LabelLemmas
pub mod CheckLemmas
mod CheckExamples
