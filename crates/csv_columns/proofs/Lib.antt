pub mod NumberSteps
pub mod FillSteps
pub mod ItemSteps
pub mod OpenSteps
pub mod ExtendSteps
pub mod FrontSteps
pub mod StopSteps
