pub mod Built
pub mod Refusals
pub mod Dealt
pub mod Stations
pub mod Tasks
pub mod Added
