pub mod Ended
pub mod Ends
