pub mod Others
pub mod Owners
pub mod Loans
pub mod Told
pub mod Reached
pub mod Kept
pub mod Jobs
pub mod Worked
