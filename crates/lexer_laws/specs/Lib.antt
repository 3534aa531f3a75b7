pub mod Covers
pub mod Quotes
