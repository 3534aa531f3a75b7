pub mod Phases
pub mod Kinds
pub mod Unions
