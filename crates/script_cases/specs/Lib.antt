pub mod Escapes
pub mod Outcomes
pub mod Rows
