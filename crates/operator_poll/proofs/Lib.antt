pub mod Queues
pub mod Keeping
