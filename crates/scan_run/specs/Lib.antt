pub mod Chains
pub mod Written
pub mod Outcomes
pub mod Words
