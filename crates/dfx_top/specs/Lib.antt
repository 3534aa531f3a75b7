pub mod CommandWords
pub mod Causes
pub mod Counts
pub mod Requests
pub mod Answers
pub mod Outcomes
pub mod Endings
