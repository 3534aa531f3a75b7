pub mod Finished
pub mod Planned
pub mod Plain
pub mod Spread
pub mod Ranges
pub mod Queries
pub mod Wholly
