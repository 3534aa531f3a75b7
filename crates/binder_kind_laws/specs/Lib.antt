pub mod Scripts
pub mod Scans
