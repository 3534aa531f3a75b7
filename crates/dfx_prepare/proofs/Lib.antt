pub mod Ordered
pub mod Listed
pub mod TableSteps
pub mod ScriptSteps
pub mod WholeSteps
pub mod Meant
