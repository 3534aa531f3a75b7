pub mod Share
pub mod Tally
pub mod Refusal
