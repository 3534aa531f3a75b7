pub mod Same
pub mod Alike
pub mod Groups
pub mod Meaning
pub mod Calls
