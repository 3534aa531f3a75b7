pub mod Counts
pub mod Layout
pub mod Tasked
