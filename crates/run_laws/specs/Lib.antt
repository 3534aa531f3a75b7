pub mod Others
pub mod Loans
pub mod Told
pub mod Kept
