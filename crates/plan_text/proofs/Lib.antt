pub mod Quotes
pub mod Writes
pub mod ListSteps
pub mod ExprSteps
pub mod NodeSteps
pub mod LineSteps
