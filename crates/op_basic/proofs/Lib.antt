pub mod Streams
pub mod Filters
pub mod Limits
pub mod Projects
