pub mod Gate
pub mod Queue
pub mod Group
pub mod Answers
