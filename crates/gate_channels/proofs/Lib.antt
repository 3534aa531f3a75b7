pub mod Distinct
pub mod Searches
pub mod Calls
pub mod Worked
