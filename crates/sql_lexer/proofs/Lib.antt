pub mod Boundaries
pub mod Each
pub mod Quotes
pub mod TextLemmas
pub mod Turns
