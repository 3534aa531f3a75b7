pub mod Calls
pub mod Groups
pub mod Outputs
pub mod Unions
