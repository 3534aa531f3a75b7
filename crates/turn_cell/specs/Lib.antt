pub mod Acts
pub mod Loans
pub mod Views
pub mod Turns
pub mod Plays
pub mod Seats
pub mod Cells
