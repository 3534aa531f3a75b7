pub mod Running
pub mod Answers
pub mod Leaving
pub mod Counts
