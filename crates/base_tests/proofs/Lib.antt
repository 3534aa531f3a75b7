mod ValueExamples
mod TokenExamples
mod LineExamples
mod JournalExamples
pub mod PairSteps
