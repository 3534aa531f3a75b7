pub mod Listings
pub mod Preparing
pub mod Outcomes
