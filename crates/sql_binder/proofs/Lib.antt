pub mod SelectSteps
pub mod AllGiven
pub mod FirstKeys
pub mod FirstNumbers
