pub mod RecordSteps
pub mod FieldSteps
pub mod ItemSteps
pub mod OpenSteps
pub mod LeftSteps
pub mod TableLaws
