pub mod EscapeSteps
pub mod RowSteps
