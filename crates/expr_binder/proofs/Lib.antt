pub mod SameLemmas
pub mod NameLemmas
pub mod MeaningSteps
pub mod CallSteps
pub mod MeaningExamples
