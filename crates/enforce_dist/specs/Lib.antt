pub mod Distribute
