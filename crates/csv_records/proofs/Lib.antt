pub mod RecordSteps
pub mod BlockSteps
pub mod RunSteps
pub mod WindowSteps
pub mod SpanSteps
pub mod CursorSteps
pub mod ReadSteps
