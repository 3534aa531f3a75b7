pub mod FaultSteps
pub mod WordSteps
pub mod QueryEnds
pub mod CommandEnds
pub mod Chains
