pub mod ChainSteps
pub mod PassSteps
pub mod OverLaws
pub mod BatchSteps
pub mod OpenSteps
pub mod FileSteps
pub mod EndSteps
pub mod FrontSteps
