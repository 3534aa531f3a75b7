pub mod Erased
pub mod Phases
pub mod Bodies
pub mod Inputs
