pub mod Polls
pub mod Waiting
pub mod Batched
pub mod Keeping
